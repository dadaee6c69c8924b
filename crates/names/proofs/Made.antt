-- An array that a function of the index made.
use Rattle.std.proofs.Common.{◌≡◌, ℕ, zero, suc, ◌+◌, ◌<◌, ◌≤◌, List, [], ◌∷◌, ◌++◌, length, get_or, take, sym, refl, ap, ◌∙◌, inl, inr, subst, add-one, arith}
use Rattle.std.proofs.lemmas.Bool.{cases_lt}
use Rattle.std.proofs.lemmas.List.{take_more}
use Rattle.std.specs.Array.{IsFromFnResultFrom, IsFromFnResult}
use denote.Param.Members.{Mut, Called}
use Rattle.node_rules.specs.Tables.{tabulate}

module _ {F B : Type 0} (g : Mut F (ℕ × Unit {0}) B) (h : ℕ → B) (f : F) (ys : List B) (d : B) (pure : (i : ℕ) (y : B) (q : F) → Called g f (i, tt) y q → (q ≡ f) × (y ≡ h i)) where
  each_made : (n i : ℕ) → IsFromFnResultFrom g f ys i n → (k : ℕ) → i ≤ k → k < i + n → get_or ys k d ≡ h k
  each_made zero i r k a b = absurd (omega arith)
  each_made (suc n) i (q, y, at, call, rest) k a b =
      let p = pure i y q call in
      elim (cases_lt i k) [
        | inl lt ↦ each_made n (i + 1) (subst (λ (x : F). IsFromFnResultFrom g x ys (i + 1) n) p.0 rest) k (omega arith) (omega arith)
        | inr le ↦ let e : k ≡ i = omega arith in rw e (at.1 d ∙ p.1)
      ]

  -- each place has what the function gives there
  pub made_at : (n : ℕ) → IsFromFnResult g f ys n → (k : ℕ) → k < n → get_or ys k d ≡ h k
  made_at n r k l = each_made n 0 r.each k (omega arith) (omega arith)

-- the first places of an array, as a list that is tabulated
pub tabulated : {B : Type 0} (h : ℕ → B) (ys : List B) (d : B) (m : ℕ) → m ≤ length ys → ((k : ℕ) → k < m → get_or ys k d ≡ h k) → take m ys ≡ tabulate h m
tabulated h ys d zero l e = refl
tabulated h ys d (suc m) l e =
    ap (λ n. take n ys) (sym (add-one m))
    ∙ take_more ys m d (omega arith)
    ∙ ap (λ xs. xs ++ get_or ys m d ∷ []) (tabulated h ys d m (omega arith) (λ k b. e k (omega arith)))
    ∙ ap (λ x. tabulate h m ++ x ∷ []) (e m (omega arith))
