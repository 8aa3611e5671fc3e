-- What a run changes before the call that ends it: words of pages, and nothing else.
use Rattle.std.proofs.Common.{◌≡◌, ℕ, Bool, true, false, cond, List, length, set, Option, refl, ◌∙◌, length-set}
use Rattle.model.specs.Pages.{Slot, nothing, closed, opened, Entries}
use Rattle.model.specs.State.{State, with_contents, with_open_pages}
use Rattle.model.specs.Machine.{write_behind, write_table, written}
use Rattle.model.proofs.Written.{table_keeps, written_keeps}

pub record SamePages (s t : State) : Type 0 where
  pub entries : t.entries ≡ s.entries
  pub running : t.running ≡ s.running
  pub contents_long : length t.contents ≡ length s.contents
  pub opens_long : length t.open_pages ≡ length s.open_pages

pub refl_pages : (s : State) → SamePages s s
refl_pages s = record { entries = refl; running = refl; contents_long = refl; opens_long = refl }

pub then_pages : (s t u : State) → SamePages t u → SamePages s t → SamePages s u
then_pages s t u h k = record {
  entries = h.entries ∙ k.entries;
  running = h.running ∙ k.running;
  contents_long = h.contents_long ∙ k.contents_long;
  opens_long = h.opens_long ∙ k.opens_long;
}

cond_pages : (b : Bool) (s t u : State) → SamePages s t → SamePages s u → SamePages s (cond b t u)
cond_pages true s t u h k = h
cond_pages false s t u h k = k

pub behind_pages : (z : Slot) (ws : List ℕ) (s : State) → SamePages s (write_behind z ws s)
unfolding write_behind
behind_pages nothing ws s = refl_pages s
behind_pages (closed p w x) ws s =
    let h : SamePages s (with_contents s (set s.contents p ws)) =
    record { entries = refl; running = refl; contents_long = length-set s.contents p ws; opens_long = refl } in
    cond_pages w s (with_contents s (set s.contents p ws)) s h (refl_pages s)
behind_pages (opened o w) ws s =
    let h : SamePages s (with_open_pages s (set s.open_pages o ws)) =
    record { entries = refl; running = refl; contents_long = refl; opens_long = length-set s.open_pages o ws } in
    cond_pages w s (with_open_pages s (set s.open_pages o ws)) s h (refl_pages s)

pub table_pages : (d : Entries) (f : ℕ → List ℕ) (q : Option ℕ) (s : State) → SamePages s (write_table d f q s)
table_pages d f q s =
    table_keeps (SamePages s) d f q s (λ j t h. then_pages s t _ (behind_pages _ (f j) t) h) (refl_pages s)

pub written_pages : (c : ℕ) (f : ℕ → ℕ → List ℕ) (s : State) → SamePages s (written c f s)
written_pages c f s =
    written_keeps (SamePages s) c f s (λ i j t h. then_pages s t _ (behind_pages _ (f i j) t) h) (refl_pages s)
