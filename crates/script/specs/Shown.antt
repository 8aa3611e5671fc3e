-- How answers and pages are printed.
use Rattle.std.specs.Prelude.{◌≡◌, ℕ, Bool, true, false, cond, List, [], ◌∷◌, ◌++◌, codes, decimal, Result, OnOk, ◌==◌}
use Rattle.model.specs.Answers.{Answer, refused, done, number, enters, told, left}

-- numbers, each behind a space
abbrev pub spaced : List ℕ → List ℕ
spaced [] = []
spaced (n ∷ ns) = 32 ∷ (decimal n ++ spaced ns)

-- what follows `enters T` and `told E`
abbrev pub with_numbers : List ℕ → List ℕ
with_numbers [] = []
with_numbers (n ∷ ns) = codes " with" ++ spaced (n ∷ ns)

-- the line of an answer
abbrev pub answer_text : Answer → List ℕ
answer_text (refused r) = codes "refused " ++ (decimal r.number ++ (codes " at " ++ decimal r.place))
answer_text done = codes "done"
answer_text (number n) = codes "number " ++ decimal n
answer_text (enters t rs) = codes "enters " ++ (decimal t ++ with_numbers rs)
answer_text (told e ns) = codes "told " ++ (decimal e ++ with_numbers ns)
answer_text (left j n) = codes "left " ++ (decimal j ++ (codes " " ++ decimal n))

-- a word in front of others, unless it is 0 and they are none
abbrev pub before_words : ℕ → List ℕ → List ℕ
before_words w [] = cond (w == 0) [] (w ∷ [])
before_words w (v ∷ vs) = w ∷ (v ∷ vs)

-- a page's words without the zeros at the end
abbrev pub trimmed : List ℕ → List ℕ
trimmed [] = []
trimmed (w ∷ ws) = before_words w (trimmed ws)

-- what a page's line begins with
abbrev pub page_name : Bool → List ℕ
page_name true = codes "open "
page_name false = codes "closed "

-- a page, by whether it is open, its number and its words
abbrev pub page_text : Bool → ℕ → List ℕ → List ℕ
page_text open_page n ws = page_name open_page ++ (decimal n ++ (codes ":" ++ spaced (trimmed ws)))

-- unless there was no memory, a text was added to another
abbrev pub Adds : {T E : Type 0} → Result T E → List ℕ → List ℕ → List ℕ → Type 0
Adds r was is text = OnOk r (is ≡ was ++ text)
