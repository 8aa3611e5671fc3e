-- REFINEMENT: a run on the lent words is the definitions' run of the machine.
use Rattle.std.proofs.Common.{◌≡◌, ℕ, ◌<◌, List, sym, refl, ap, ◌∙◌, ap₂, arith}
use Rattle.model.specs.Calls.{by_cell}
use Rattle.model.specs.State.{State}
use Rattle.model.specs.Events.{state}
use Rattle.model.specs.Worlds.{World}
use Rattle.model.specs.Processor.{in_place, steps, patience, drawn}
use Rattle.model.proofs.InPlace.{plays_in_place}
use Rattle.pages.specs.Flat.{flat}
use Rattle.pages.specs.Layout.{encode}
use Rattle.lookups.proofs.Edited.{contents_wide, opens_wide}
use Rattle.full_monitor.proofs.Right.{known}
use Rattle.machine.specs.Instructions.{made_up}
use Rattle.machine.specs.Lent.{Words, lent}
use Rattle.machine.specs.Came.{run_of, Runs, goes_on, chance_of, Refines}
use Rattle.machine.specs.declared.values.Ran.{Ran}
use Rattle.machine.proofs.Settled.{settled}
use Rattle.machine.proofs.InWords.{Has, ran_right}

pub refined : (m : List ℕ) (t : ℕ) (before after : Words) (n d : ℕ) (rs : List ℕ) (r : Ran) → d < 4294967296 →
    Runs m t before after n d rs r → Refines m t before after n d rs r
refined m t before after n d rs r low h l es c x w e top live =
    let s : State = state l es in
    let k = known l es w.sized w.paged in
    let world : World = record { state = s; registers = rs } in
    let has : Has l s k c x e live before s = record {
      entries = refl;
      running = refl;
      closed_pages = w.closed;
      open_pages = w.opens;
      contents_long = k.invariant.contents_long;
      opens_long = k.invariant.opens_long;
      contents_wide = contents_wide l s k;
      opens_wide = opens_wide l s k;
    } in
    let same = ran_right l s k c x e live n d rs before has in
    let here : run_of m t n d rs before ≡ steps (lent (encode l s) x.top) made_up n d rs before =
    ap₂ (λ a b. run_of a b n d rs before) w.memory (sym top) in
    let all = ap₂ (λ i j. steps (in_place c) made_up i j rs s) (patient n d low) (drew n d low) in
    let p = plays_in_place made_up goes_on world c (chance_of n d) in
    record {
      registers = h.registers ∙ ap (λ z. z.registers) here ∙ same.registers ∙ sym (ap (λ z. z.registers) all) ∙ sym p.1;
      ends = h.ends ∙ ap (λ z. by_cell z.ends) here ∙ ap by_cell (same.ends ∙ sym (ap (λ z. z.ends) all)
          ∙ sym (settled (in_place c) (patience (chance_of n d)) (drawn (chance_of n d)) rs s) ∙ sym p.2);
      closed_pages = ap (λ z. z.closed_pages) h.words ∙ ap (λ z. z.memory.closed_pages) here ∙ same.memory.closed_pages
          ∙ ap (λ z. flat z.contents) (sym (ap (λ z. z.memory) all) ∙ sym p.0);
      open_pages = ap (λ z. z.open_pages) h.words ∙ ap (λ z. z.memory.open_pages) here ∙ same.memory.open_pages
          ∙ ap (λ z. flat z.open_pages) (sym (ap (λ z. z.memory) all) ∙ sym p.0);
    }
  where
    patient : (n d : ℕ) → d < 4294967296 → patience (chance_of n d) ≡ n
    patient n d h = omega arith

    drew : (n d : ℕ) → d < 4294967296 → drawn (chance_of n d) ≡ d
    drew n d h = omega arith
