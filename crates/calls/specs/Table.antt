-- The table of calls: for each, its number, how many numbers it has, whether a place, and a list of at most how many; and the call that
-- these fields make. The bytes of a call are its number, one byte, and then its fields in this order. The table is all that there is to
-- know of them: reading and writing go by it.
use Rattle.std.specs.Prelude.{◌≡◌, ℕ, Bool, true, false, List, [], ◌∷◌, length, Some, None, Ok, Err, Result}
use Rattle.std.specs.List.{slice_get}
use Rattle.std.specs.Option.{option_to_list}
use Rattle.model.specs.Calls.{Place, SystemCall, how_many, new_cell, new_thread, new_table, hold, give, show, remove, seal, stop, enter}
use Rattle.model.specs.Calls.{resume, CellCall, leave, interrupt, fault, grow, shrink, extend, who, draw, Call, by_system, by_cell}
use Rattle.model.specs.Calls.{garbled, system_number, cell_number}
use Rattle.fields.specs.Bytes.{Wide}
use Rattle.fields.specs.Codec.{Codec, read_all}
use Rattle.fields.specs.Shapes.{Body, origin}
use Rattle.fields.specs.Tables.{Row, row, find, few_for, first, second, third, fourth, messages}

abbrev pub table : List (Row Call)
table =
    row 0 0 false None (λ f. by_system how_many)
    ∷ (row 1 2 false None (λ f. by_system (new_cell (first f) (second f)))
    ∷ (row 2 3 false None (λ f. by_system (new_thread (first f) (second f) (third f)))
    ∷ (row 3 3 false None (λ f. by_system (new_table (first f) (second f) (third f)))
    ∷ (row 4 2 true (Some 1) (λ f. by_system (hold (first f) (second f) f.place (slice_get f.list 0)))
    ∷ (row 5 2 false None (λ f. by_system (give (first f) (second f)))
    ∷ (row 6 2 true None (λ f. by_system (show (first f) (second f) f.place))
    ∷ (row 7 1 false None (λ f. by_system (remove (first f)))
    ∷ (row 8 1 false None (λ f. by_system (seal (first f)))
    ∷ (row 9 1 false None (λ f. by_system (stop (first f)))
    ∷ (row 10 4 false None (λ f. by_system (enter (first f) (second f) (third f) (fourth f)))
    ∷ (row 11 1 false None (λ f. by_system (resume (first f)))
    ∷ (row 20 1 false None (λ f. by_cell (leave (first f)))
    ∷ (row 21 0 false (Some 255) (λ f. by_cell (interrupt f.list))
    ∷ (row 22 1 false None (λ f. by_cell (fault (first f)))
    ∷ (row 23 1 true None (λ f. by_cell (grow (first f) f.place))
    ∷ (row 24 1 true None (λ f. by_cell (shrink (first f) f.place))
    ∷ (row 25 2 false None (λ f. by_cell (extend (first f) (second f)))
    ∷ (row 26 0 false None (λ f. by_cell who)
    ∷ (row 27 1 false None (λ f. by_cell (draw (first f)))
    ∷ [])))))))))))))))))))

-- the fields of a call: numbers, up to four; a place; a list
abbrev pub with : ℕ → ℕ → ℕ → ℕ → Place → List ℕ → Body
with a b c d w l = record { numbers = a ∷ (b ∷ (c ∷ (d ∷ []))); place = w; list = l }

abbrev pub only : ℕ → ℕ → ℕ → ℕ → Body
only a b c d = with a b c d origin []

abbrev pub system_fields : SystemCall → Body
system_fields how_many = only 0 0 0 0
system_fields (new_cell p t) = only p t 0 0
system_fields (new_thread p c a) = only p c a 0
system_fields (new_table p c i) = only p c i 0
system_fields (hold p c w o) = with p c 0 0 w (option_to_list o)
system_fields (give p c) = only p c 0 0
system_fields (show o c w) = with o c 0 0 w []
system_fields (remove p) = only p 0 0 0
system_fields (seal c) = only c 0 0 0
system_fields (stop c) = only c 0 0 0
system_fields (enter t x y z) = only t x y z
system_fields (resume t) = only t 0 0 0

abbrev pub cell_fields : CellCall → Body
cell_fields (leave n) = only n 0 0 0
cell_fields (interrupt rs) = with 0 0 0 0 origin rs
cell_fields (fault k) = only k 0 0 0
cell_fields (grow p w) = with p 0 0 0 w []
cell_fields (shrink p w) = with p 0 0 0 w []
cell_fields (extend p i) = only p i 0 0
cell_fields who = only 0 0 0 0
cell_fields (draw n) = only n 0 0 0

-- a call's number and fields; bytes that are no call have a number that no row has
abbrev pub parts : Call → ℕ × Body
parts (by_system c) = (system_number c, system_fields c)
parts (by_cell c) = (cell_number c, cell_fields c)
parts (garbled k) = (256, only 0 0 0 0)

-- calls as bytes
unfoldable pub calls : Codec Call
calls = messages (garbled 0) table parts

unfoldable pub write_call : Call → List ℕ
write_call c = calls.write c

-- whether its bytes can carry a call's list, as to how many numbers it has
unfoldable pub carried : Call → Bool
carried c = few_for (find (parts c).0 table) (length (parts c).1.list)

-- calls that their bytes can carry: each number fits eight bytes, and the list isn't too long
pub record Carried (c : Call) : Type 0 where
  pub short : carried c ≡ true
  pub numbers : Wide (parts c).1.numbers
  pub place : Wide ((parts c).1.place.table ∷ ((parts c).1.place.slot ∷ []))
  pub list : Wide (parts c).1.list

abbrev pub settled : Result Call ℕ → Call
settled (Ok c) = c
settled (Err k) = garbled k

-- the call that bytes are, or where they cease to be one
unfoldable pub read_call : List ℕ → Call
read_call bs = settled (read_all calls bs)
