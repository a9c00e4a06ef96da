mod Arguments
mod Worked
