-- What is read from a list after a write.
use Rattle.std.proofs.Common.{◌≡◌, ℕ, zero, suc, ◌⊎◌, List, [], ◌∷◌, get_or, set, replicate, sym, refl, ap, inl, inr}

module _ {A : Type 0} where
  -- What was there before, or what was written.
  pub get_d_set : (xs : List A) (i j : ℕ) (a d : A) → (get_or (set xs i a) j d ≡ get_or xs j d) ⊎ ((i ≡ j) × (get_or (set xs i a) j d ≡ a))
  get_d_set [] i j a d = inl refl
  get_d_set (x ∷ xs) zero zero a d = inr (refl, refl)
  get_d_set (x ∷ xs) zero (suc j) a d = inl refl
  get_d_set (x ∷ xs) (suc i) zero a d = inl refl
  get_d_set (x ∷ xs) (suc i) (suc j) a d = elim (get_d_set xs i j a d) [ inl e ↦ inl e | inr e ↦ inr (ap suc e.0, e.1) ]

  -- What is changed in place, by a function that leaves the default alone.
  pub changed_here : (xs : List A) (i : ℕ) (f : A → A) (d : A) → f d ≡ d → get_or (set xs i (f (get_or xs i d))) i d ≡ f (get_or xs i d)
  changed_here [] i f d h = sym h
  changed_here (x ∷ xs) zero f d h = refl
  changed_here (x ∷ xs) (suc i) f d h = changed_here xs i f d h

  pub getD_replicated : (n i : ℕ) (a : A) → get_or (replicate n a) i a ≡ a
  getD_replicated zero i a = refl
  getD_replicated (suc n) zero a = refl
  getD_replicated (suc n) (suc i) a = getD_replicated n i a
