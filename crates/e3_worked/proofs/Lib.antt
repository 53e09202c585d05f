mod Judging
mod Unfolding
