mod Laws
mod Runs
