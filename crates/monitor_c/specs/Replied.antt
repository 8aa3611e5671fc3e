-- What a caller in C gets: any slices may come.
use Rattle.std.specs.Prelude.{◌≡◌, Bool, true, false, ◌&&◌, List, ◌++◌, ℕ, ◌+◌, ◌*◌, ◌==◌, nat_le, length, slice_index, drop}
use Rattle.model.specs.Calls.{Call}
use Rattle.model.specs.Answers.{to_system}
use Rattle.answers.specs.Table.{write_answer}
use Rattle.pages.specs.Rows.{new_memory}
use Rattle.monitor.specs.Stage.{fitting}
use Rattle.full_monitor.specs.Program.{says, leaves, leaves_pages}
use Rattle.monitor.specs.Called.{Slices}

-- whether the memory has its header, and the slices are as long as that says, with room for what the system is told
abbrev pub fits : List ℕ → List ℕ → List ℕ → List ℕ → Bool
fits m cs os told =
    nat_le 256 (length m)
    && (nat_le (slice_index m 0) 4096
    && (nat_le (slice_index m 1) 1048576
    && (length m == 256 + slice_index m 0 * 2048
    && (length cs == slice_index m 0 * 1024 && (length os == slice_index m 1 * 1024 && nat_le 17 (length told))))))

-- Slices that don't fit: 0, and nothing is changed. Others: how many bytes the system is told, and what the program leaves.
abbrev pub Replied : Bool → List ℕ → Call → Slices → Slices → ℕ → Type 0
Replied false os c before after n = (n ≡ 0) × (after ≡ before)
Replied true os c before after n =
    (n ≡ length (write_answer (to_system (says before.memory before.closed os c))))
    × (after.memory ≡ leaves before.memory before.closed os c)
    × (after.closed ≡ leaves_pages before.memory before.closed os c)
    × (after.told ≡ write_answer (to_system (says before.memory before.closed os c)) ++ drop n before.told)

-- True: the memory is that of an opened monitor. False: limits or lengths don't fit, and nothing is changed.
abbrev pub OpenedAs : ℕ → ℕ → ℕ → ℕ → List ℕ → List ℕ → Bool → Type 0
OpenedAs pages opens inside outside before after true =
    (fitting pages opens (length before) inside outside ≡ true) × (after ≡ new_memory pages opens)
OpenedAs pages opens inside outside before after false = (fitting pages opens (length before) inside outside ≡ false) × (after ≡ before)
