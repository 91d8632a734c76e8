mod Accepting
mod Going
