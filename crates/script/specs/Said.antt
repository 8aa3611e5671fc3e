-- What the code says of a line.
use Rattle.std.specs.Prelude.{◌≡◌, ℕ, ◌+◌, ◌*◌, ◌≤◌, true, List, length, take, is_some, Some, None, Option}
use Rattle.model.specs.Calls as model
use Rattle.fields.specs.Bytes.{numbers_bytes}
use Rattle.fields.specs.Shapes.{Body}
use Rattle.fields.specs.Tables.{find}
use Rattle.fields.specs.Steps.{Wrote}
use Rattle.calls.specs.Table.{table, carried, write_call, read_call}
use Rattle.script.specs.Pages.{is_open}
use Rattle.script.specs.Lines as line
use Rattle.script.specs.Lines.{call_with}
use Rattle.script.specs.declared.line.Line.{Line}
use Rattle.script.specs.declared.line.Line.TheVariants.{Skip, Limits, Call, Write, Print, Unreadable}

-- the bytes of a call stand at the front of bytes, and are so many
pub record Stands (c : model.Call) (n : ℕ) (bytes : List ℕ) : Type 0 where
  pub within : n ≤ length bytes
  pub front : take n bytes ≡ write_call c

-- The code's word for a line is what the line is; a call's bytes and a page's words stand at the front of what was lent for them.
abbrev pub Said : Option line.Line → Line → List ℕ → List ℕ → Type 0
Said o Skip bytes words = o ≡ Some line.skip
Said o (Limits closed_pages open_pages) bytes words = o ≡ Some (line.limits closed_pages open_pages)
Said o (Call n) bytes words = (c : model.Call) × (o ≡ Some (line.call c)) × Stands c n bytes
Said o (Write page n) bytes words = (o ≡ Some (line.write (is_open page.side) page.number (take n words))) × (n ≤ 1024)
Said o (Print page) bytes words = o ≡ Some (line.print (is_open page.side) page.number)
Said o Unreadable bytes words = o ≡ None

-- The same of what may be no line of a form: where there is one, it can be read.
abbrev pub Tried : Option line.Line → Option Line → List ℕ → List ℕ → Type 0
Tried o None bytes words = o ≡ None
Tried o (Some l) bytes words = Said o l bytes words × (is_some o ≡ true)

-- The bytes of a call are read back as that call.
abbrev pub Back : Option line.Line → Line → List ℕ → Type 0
Back o (Call n) bytes = (c : model.Call) → o ≡ Some (line.call c) → read_call (take n bytes) ≡ c
Back o Skip bytes = Unit {0}
Back o (Limits closed_pages open_pages) bytes = Unit {0}
Back o (Write page n) bytes = Unit {0}
Back o (Print page) bytes = Unit {0}
Back o Unreadable bytes = Unit {0}

-- a call that a number and fields make, and that its bytes can carry in the room that there is
pub record Callable (n : ℕ) (f : Body) : Type 0 where
  pub known : is_some (find n table) ≡ true
  pub short : carried (call_with n f) ≡ true
  pub room : length (write_call (call_with n f)) ≤ 2042

-- numbers that were written from the third byte on, and how many
abbrev pub Listed : Option (List ℕ) → Option ℕ → List ℕ → List ℕ → Type 0
Listed o None was is = o ≡ None
Listed o (Some n) was is =
    (ns : List ℕ) × (o ≡ Some ns) × (n ≡ length ns) × (n ≤ 255) × Wrote was is 2 (numbers_bytes ns) (2 + 8 * n)

-- an interrupt's bytes, with these registers
abbrev pub Interrupts : Option (List ℕ) → Option ℕ → List ℕ → Type 0
Interrupts o None bytes = o ≡ None
Interrupts o (Some n) bytes = (ns : List ℕ) × (o ≡ Some ns) × Stands (model.by_cell (model.interrupt ns)) n bytes

-- words at the front of a page, and how many
abbrev pub Filled : Option (List ℕ) → Option ℕ → List ℕ → Type 0
Filled o None page = o ≡ None
Filled o (Some n) page = (o ≡ Some (take n page)) × (n ≤ 1024)
