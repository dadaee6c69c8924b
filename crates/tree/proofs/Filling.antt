-- Children that fill slots: one slot at a time, and one child at a time.
use Rattle.std.proofs.Common.{Bor, ◌≡◌, ℕ, Bool, false, List, [], ◌∷◌, map, Some, None, Ok, Option, Result, sym, refl, ap, ◌∙◌}
use Rattle.std.specs.Iterator.{Yields, YieldsFirst}
use Rattle.std.specs.Option.{MatchOption}
use Rattle.std.specs.List.{FoldsTo}
use Rattle.nodes.specs.Kinds.{kind_of, named}
use Rattle.layout.specs.Faults.{end_of, kind_byte, children_fit}
use Rattle.nodes.specs.Tree.{children}
use Rattle.nodes.specs.declared.kind.Kind.{Kind}
use Rattle.nodes.specs.declared.kind.UnknownKind.{UnknownKind}
use Rattle.nodes.specs.Shapes.{shape, filled, satisfied, fill}
use Rattle.nodes.specs.declared.shape.Slot.{Slot}

pub fit_start : (nodes : List ℕ) (i : ℕ) (kind : Kind) (slots : List Slot) (ks : List ℕ) → kind_of (kind_byte nodes i) ≡ Some kind → slots ≡ shape kind → ks ≡ map (kind_byte nodes) (children (end_of nodes) i) → fill (Some slots) ks ≡ children_fit nodes i
unfolding children_fit
fit_start nodes i kind slots ks h s e = rw (h, s, e) refl

pub fit_unknown : (nodes : List ℕ) (i : ℕ) → kind_of (kind_byte nodes i) ≡ None → children_fit nodes i ≡ false
unfolding children_fit
fit_unknown nodes i h = rw h refl

pub known : (n : ℕ) (kind : Kind) (o : Option Kind) → Ok kind ≡ named n o → o ≡ Some kind
known n kind (Some k) h = cc
known n kind None h = cc

pub unknown : (n : ℕ) (o : Option Kind) (r : Result Kind UnknownKind) → ((kind : Kind) → r ≡ Ok kind → ⊥) → r ≡ named n o → o ≡ None
unknown n (Some k) r h e = absurd (h k e)
unknown n None r h e = refl

-- A chain that fills slots with the numbers that are left of a row, and asks then whether they are satisfied.
module _ {S F : Type 0} (rest : S → List ℕ) (turn : F × Bor (List Slot) → ℕ → F × Bor (List Slot) → Type 0) (turns : (p : F × Bor (List Slot)) (k : ℕ) (q : F × Bor (List Slot)) → turn p k q → filled p.1.now k ≡ Some q.1.now) where
  filled_on : (ks : List ℕ) (s t : S) (p q : F × Bor (List Slot)) → Yields (YieldsFirst rest) s ks t → FoldsTo turn p ks q → fill (Some p.1.now) (rest s) ≡ fill (Some q.1.now) (rest t)
  filled_on [] s t p q y f = cc
  filled_on (k ∷ ks) s t p q y f =
      let e = turns p k f.0 f.1 in
      let g : rest s ≡ k ∷ rest y.0 = y.1 in
      ap (fill (Some p.1.now)) g ∙ ap (λ o. fill o (rest y.0)) e ∙ filled_on ks y.0 t f.0 q y.2 f.2

  last_filled : (p : Bor (List Slot)) (t u : S) (o : Option ℕ) (r : Option (Bor (List Slot))) (b : Bool) (Stop : ℕ → Type 0) (Post : Bor (List Slot) → Type 0) → ((k : ℕ) → Stop k → (filled p.now k ≡ None) × (r ≡ None)) → ((x : Bor (List Slot)) → Post x → b ≡ satisfied x.now) → YieldsFirst rest t o u → MatchOption o (r ≡ Some p) Stop → MatchOption r (b ≡ false) Post → fill (Some p.now) (rest t) ≡ b
  last_filled p t u None r b Stop Post stops posts y m n = ap (fill (Some p.now)) y.0 ∙ sym (posts p (rw m at n))
  last_filled p t u (Some k) r b Stop Post stops posts y m n =
      let e = stops k m in
      let f : b ≡ false = rw e.1 at n in
      ap (fill (Some p.now)) y ∙ ap (λ o. fill o (rest u)) e.0 ∙ sym f

  pub filled_by : (ks : List ℕ) (s t u : S) (p q : F × Bor (List Slot)) (o : Option ℕ) (r : Option (Bor (List Slot))) (b : Bool) (Stop : ℕ → Type 0) (Post : Bor (List Slot) → Type 0) → ((k : ℕ) → Stop k → (filled q.1.now k ≡ None) × (r ≡ None)) → ((x : Bor (List Slot)) → Post x → b ≡ satisfied x.now) → Yields (YieldsFirst rest) s ks t → YieldsFirst rest t o u → FoldsTo turn p ks q → MatchOption o (r ≡ Some q.1) Stop → MatchOption r (b ≡ false) Post → b ≡ fill (Some p.1.now) (rest s)
  filled_by ks s t u p q o r b Stop Post stops posts y z f m n =
      sym (filled_on ks s t p q y f ∙ last_filled q.1 t u o r b Stop Post stops posts z m n)
