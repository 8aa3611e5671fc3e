-- What it is to be read from bytes and written to them, and how such pieces are put together.
use Rattle.std.specs.Prelude.{◌≡◌, ℕ, suc, ◌-◌, ◌*◌, ◌≤◌, Bool, true, cond, List, [], ◌∷◌, ◌++◌, length, take, drop, Ok, Err, Result, nat_le}
use Rattle.fields.specs.Bytes.{Bytes, Wide, numbers_bytes, numbers_in}

-- What is read of the front of bytes: a value and the bytes behind it, or how many bytes are left where they cease to be one.
pub data Got (A : Type 0) : Type 0 where
  got : A → List ℕ → Got A
  lost : ℕ → Got A

-- A piece of a format: how it is read, how it is written, and which values its bytes can carry.
pub record Codec (A : Type 0) : Type 1 where
  pub read : List ℕ → Got A
  pub write : A → List ℕ
  pub fits : A → Type 0

abbrev pub and_then : {A B : Type 0} → Got A → (A → List ℕ → Got B) → Got B
and_then (got a rest) f = f a rest
and_then (lost r) f = lost r

-- no bytes, for a value that is known
abbrev pub nothing : {A : Type 0} → A → Codec A
nothing a = record { read = λ bs. got a bs; write = λ _. []; fits = λ v. v ≡ a }

-- one byte that passes a test
abbrev pub read_byte : (ℕ → Bool) → List ℕ → Got ℕ
read_byte test [] = lost 0
read_byte test (b ∷ bs) = cond (test b) (got b bs) (lost (suc (length bs)))

abbrev pub byte : (ℕ → Bool) → Codec ℕ
byte test = record { read = read_byte test; write = λ b. b ∷ []; fits = λ b. test b ≡ true }

-- so many numbers of eight bytes
abbrev pub numbers : ℕ → Codec (List ℕ)
numbers n = record {
  read = λ bs. cond (nat_le (8 * n) (length bs)) (got (numbers_in n bs) (drop (8 * n) bs)) (lost 0);
  write = numbers_bytes;
  fits = λ ns. (length ns ≡ n) × Wide ns;
}

-- one piece and then another, which may depend on the first
abbrev pub both : {A B : Type 0} → Codec A → (A → Codec B) → Codec (A × B)
both p q = record {
  read = λ bs. and_then (p.read bs) (λ a rest. and_then ((q a).read rest) (λ b end. got (a, b) end));
  write = λ v. p.write v.0 ++ (q v.0).write v.1;
  fits = λ v. p.fits v.0 × (q v.0).fits v.1;
}

-- the same bytes, for values of another type
abbrev pub via : {A B : Type 0} → (A → B) → (B → A) → Codec A → Codec B
via to from c = record {
  read = λ bs. and_then (c.read bs) (λ a rest. got (to a) rest);
  write = λ b. c.write (from b);
  fits = λ b. c.fits (from b) × (to (from b) ≡ b);
}

-- All of the bytes, and no more: the value, or the place where they cease to be one.
abbrev pub closed : {A : Type 0} → ℕ → Got A → Result A ℕ
closed n (got v []) = Ok v
closed n (got v (b ∷ bs)) = Err (n - suc (length bs))
closed n (lost r) = Err (n - r)

abbrev pub read_all : {A : Type 0} → Codec A → List ℕ → Result A ℕ
read_all c bs = closed (length bs) (c.read bs)

-- one list is the beginning of another
abbrev pub Begins : List ℕ → List ℕ → Type 0
Begins xs ys = (more : List ℕ) × (ys ≡ xs ++ more)

-- What is written is read back.
abbrev pub ReadBack : {A : Type 0} → Codec A → Type 0
ReadBack {A} c = (v : A) → c.fits v → read_all c (c.write v) ≡ Ok v

-- There is no second spelling: bytes that are read as a value are the ones that are written for it.
abbrev pub OneSpelling : {A : Type 0} → Codec A → Type 0
OneSpelling {A} c = (bs : List ℕ) (v : A) → Bytes bs → read_all c bs ≡ Ok v → c.fits v × (c.write v ≡ bs)

-- Where bytes cease to be a value: the length of the longest beginning of them that the bytes of some value begin with.
pub record Ceases {A : Type 0} (c : Codec A) (bs : List ℕ) (k : ℕ) : Type 0 where
  pub within : k ≤ length bs
  pub shared : (v : A) × c.fits v × Begins (take k bs) (c.write v)
  pub longest : (v : A) (j : ℕ) → c.fits v → j ≤ length bs → Begins (take j bs) (c.write v) → j ≤ k

abbrev pub SaysWhere : {A : Type 0} → Codec A → Type 0
SaysWhere {A} c = (bs : List ℕ) (k : ℕ) → Bytes bs → read_all c bs ≡ Err k → Ceases c bs k
