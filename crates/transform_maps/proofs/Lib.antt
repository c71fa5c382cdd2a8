mod Laws
mod Worked
