-- How much is read of the outside, in octets.
use Rattle.std.specs.Prelude.{ℕ, ◌^◌, min}

-- the longest file that is read, 64 MiB
abbrev pub file_limit : ℕ
file_limit = 2 ^ 26

-- what all files of a command may have together, 128 MiB
abbrev pub command_limit : ℕ
command_limit = 2 ^ 27

-- the most octets that the next file may have, where so many are left of the command's
abbrev pub limit_of : ℕ → ℕ
limit_of left = min file_limit left
