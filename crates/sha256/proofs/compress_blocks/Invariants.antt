use Rattle.std.proofs.Common.{◌≡◌, ◌-◌, ◌*◌, ◌/◌, length, drop}
use Rattle.sha256.specs.Words.{blocks_hashed}
use Rattle.sha256.specs.Window.{state_of}
use Rattle.sha256.proofs.compress_blocks.Given as goal

-- the blocks that are left give the result
abbrev pub invariant-loop-i : goal.invariant-loop-i
invariant-loop-i l =
    blocks_hashed (length l.words / 16 - l.i) (state_of l.after) (drop (16 * l.i) l.words)
    ≡ blocks_hashed (length l.words / 16) (state_of l.initial.after) l.words
