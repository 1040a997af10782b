mod Numbers
mod Program
mod Simple
mod Values
