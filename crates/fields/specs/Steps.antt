-- What a step over bytes has done: a cursor that reads on, a slice that is written on, a whole message that is written.
use Rattle.std.specs.Prelude.{◌≡◌, ℕ, ◌+◌, ◌-◌, ◌<◌, ◌≤◌, Bool, true, false, List, ◌++◌, length, take, drop, Ok, Err, Option, Result, MatchResult}
use Rattle.fields.specs.Codec.{Codec, got, lost, read_all, Ceases}
use Rattle.fields.specs.Shapes.{Body, list_if, few, body_of}
use Rattle.fields.specs.declared.cursor.Cursor.{Cursor}
use Rattle.fields.specs.declared.writing.Writer.{Writer}
use Rattle.fields.specs.declared.values.Parts.{Parts}
use Rattle.fields.specs.declared.values.Unwritten.{Unwritten}
use Rattle.fields.specs.declared.values.Unwritten.TheVariants.{TooMany, TooShort}

-- a cursor's bytes, and those that it has yet to read
abbrev pub all_of : Cursor → List ℕ
all_of r = r.bytes.now

abbrev pub rest_of : Cursor → List ℕ
rest_of r = drop r.at r.bytes.now

-- It read what the codec reads, as f sees it, and stands behind it; or it says where the bytes cease to be that.
abbrev pub Read : {A B : Type 0} → Codec A → (B → A) → Cursor → Result B ℕ → Cursor → Type 0
Read c f r (Ok v) s = (s.bytes ≡ r.bytes) × (c.read (rest_of r) ≡ got (f v) (rest_of s))
Read c f r (Err k) s = (c.read (rest_of r) ≡ lost (length (all_of r) - k)) × (k ≤ length (all_of r))

-- a result whose value f sees
abbrev pub seen : {A B : Type 0} → (B → A) → Result B ℕ → Result A ℕ
seen f (Ok v) = Ok (f v)
seen f (Err k) = Err k

-- a message's number and fields, by the number of its kind
abbrev pub parts_of : {K : Type 0} → (K → ℕ) → Parts K → ℕ × Body
parts_of number_of p = (number_of p.kind, body_of p.fields)

-- All of the bytes were read, as f sees it: the value is the codec's, and the bytes are those that are written for it; or they cease to be
-- one where the codec says, which is the length of their longest beginning that some value's bytes begin with.
pub record Reading {A B : Type 0} (c : Codec A) (f : B → A) (bytes : List ℕ) (r : Result B ℕ) : Type 0 where
  pub value : read_all c bytes ≡ seen f r
  pub spelling : MatchResult r (λ v. c.write (f v) ≡ bytes) (λ k. Ceases c bytes k)

-- Bytes written at a place into what a slice held, what it holds then, and where they end.
pub record Wrote (before after : List ℕ) (at : ℕ) (bytes : List ℕ) (end : ℕ) : Type 0 where
  pub there : after ≡ take at before ++ (bytes ++ drop (at + length bytes) before)
  pub ends : end ≡ at + length bytes
  pub long : length after ≡ length before

-- a writer has room for so many bytes more
abbrev pub Room : Writer → ℕ → Type 0
Room w n = w.at + n ≤ length w.out.now

-- Bytes put into a writer's slice, behind those that it has written.
pub record Put (before after : Writer) (bytes : List ℕ) : Type 0 where
  pub same : after.out.ghost_name ≡ before.out.ghost_name
  pub wrote : Wrote before.out.now after.out.now before.at bytes after.at

-- how many bytes a list takes, unless it has too many numbers
abbrev pub Sized : Option ℕ → List ℕ → Result ℕ Unwritten → Type 0
Sized most ns (Ok n) = (few most (length ns) ≡ true) × (n ≡ length ((list_if most).write ns)) × (n ≤ 2041)
Sized most ns (Err e) = (few most (length ns) ≡ false) × (e ≡ TooMany)

-- All of a message is written, at the slice's start; or nothing, since its list has too many numbers, or the slice is too short.
abbrev pub Written : Bool → List ℕ → List ℕ → List ℕ → Result ℕ Unwritten → Type 0
Written fits bytes before after (Ok n) = (fits ≡ true) × (n ≡ length bytes) × (after ≡ bytes ++ drop n before)
Written fits bytes before after (Err TooMany) = (fits ≡ false) × (after ≡ before)
Written fits bytes before after (Err (TooShort needed)) =
    (fits ≡ true) × (needed ≡ length bytes) × (length before < needed) × (after ≡ before)
