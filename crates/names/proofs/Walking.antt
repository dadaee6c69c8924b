-- The walk from node to node: what is known at one gives what is known at the next.
use Rattle.std.proofs.Common.{◌≡◌, ℕ, zero, suc, ◌+◌, ◌<◌, ◌≤◌, true, false, cond, Ok, Err, Result, List, [], ◌∷◌, ◌++◌, length, get_or, take, set, replicate, sym, refl, ap, ◌∙◌, subst, append-nil, inl, inr, arith}
use lib.ListN.{length-replicate}
use lib.Seq.{take-append-le}
use Rattle.std.proofs.lemmas.List.{take-take, length-take-le, length-set}
use Rattle.std.proofs.lemmas.Bool.{cond_both, cases_lt}
use Rattle.nodes.specs.Kinds.{between}
use Rattle.nodes.specs.declared.node.Node.{Node}
use Rattle.node_rules.specs.Tables.{end, parts}
use Rattle.node_rules.specs.Scopes.{declares, binding, in_force, context}
use Rattle.node_rules.specs.declared.binding.Binding.{Binding}
use Rattle.node_rules.specs.declared.context.Context.{Context}
use Rattle.stack.specs.Stacks.{Pushed}
use Rattle.stack.specs.declared.Full.{Full}
use Rattle.names.specs.Walk.{Nested, Child, kin, Known, vacant, own, Ready, Entered, Walked}
use Rattle.names.proofs.Kinship.{kin_none, kin_more, kin_parts}
use Rattle.names.proofs.Nesting.{child_first, child_next, in_force_next, in_force_first, in_force_program}
use Rattle.names.proofs.Contexts.{known_more, program_context}

own_few : (ns : List Node) (i : ℕ) → length (own ns i) ≤ 1
own_few ns i = cond_both (declares ns i) (binding ns i ∷ []) [] (λ xs. length xs ≤ 1) (λ _. omega arith) (λ _. omega arith)

-- the first of what is in use
take_below : {X : Type 0} (mark used used' : ℕ) (xs ys more : List X) → mark ≤ used → used ≤ used' → used ≤ length xs → take used' ys ≡ take used xs ++ more → take mark ys ≡ take mark xs
take_below mark used used' xs ys more a b c e =
    let l = length-take-le used xs c in
    let h : mark ≤ length (take used xs) = omega arith in
    sym (take-take mark used' ys (omega arith)) ∙ ap (take mark) e ∙ take-append-le mark (take used xs) more h ∙ take-take mark used xs a

module _ (ns : List Node) (n : Nested ns) (bs : List Binding) (cs : List Context) (used i p : ℕ) (l : i < length ns) (c : Child (end ns) p i) (r : Ready ns bs cs used i) where
  -- a node that declares nothing is entered
  pub entered_plain : (bs' : List Binding) (cs' : List Context) → declares ns i ≡ false → bs' ≡ bs → cs' ≡ set cs i (context ns i) → Entered ns bs' cs' used i
  entered_plain bs' cs' d b e =
      let w = r.room.1 in
      let few = n.few in
      let f = r.fits in
      record {
        room = (ap length b ∙ r.room.0, ap length e ∙ length-set cs i (context ns i) ∙ w);
        fits = omega arith;
        names = λ h. ap (take used) b ∙ r.names ∙ sym (in_force_first ns n.spans p i c h ∙ ap (λ x. in_force ns i ++ cond x (binding ns i ∷ []) []) d ∙ append-nil (in_force ns i));
        known = subst (λ (x : List Context). Known ns x (i + 1)) (sym e) (known_more ns cs i r.known (omega arith));
      }

  -- a declaration is entered, with its name
  pub entered_own : (bs' : List Binding) (cs' : List Context) (used' : ℕ) → declares ns i ≡ true → bs' ≡ set bs used (binding ns i) → used' ≡ used + 1 → take used' bs' ≡ take used bs ++ binding ns i ∷ [] → cs' ≡ set cs i (context ns i) → Entered ns bs' cs' used' i
  entered_own bs' cs' used' d b u t e =
      let w = r.room.1 in
      let few = n.few in
      let f = r.fits in
      record {
        room = (ap length b ∙ length-set bs used (binding ns i) ∙ r.room.0, ap length e ∙ length-set cs i (context ns i) ∙ w);
        fits = omega arith;
        names = λ h. t ∙ ap (λ xs. xs ++ binding ns i ∷ []) r.names ∙ sym (in_force_first ns n.spans p i c h ∙ ap (λ x. in_force ns i ++ cond x (binding ns i ∷ []) []) d);
        known = subst (λ (x : List Context). Known ns x (i + 1)) (sym e) (known_more ns cs i r.known (omega arith));
      }

-- where there is room, a push is taken
pushed : {X : Type 0} (taken : Result Unit Full) (xs : List X) (used : ℕ) (x : X) (ys : List X) (used' : ℕ) → used < length xs → Pushed taken xs used x ys used' → Pushed (Ok tt) xs used x ys used'
pushed (Ok _) xs used x ys used' l h = h
pushed (Err _) xs used x ys used' l h = absurd (let m = h.0 in omega arith)

pub pushed_own : (ns : List Node) → Nested ns → (bs bs₁ : List Binding) (cs : List Context) (used i : ℕ) (taken : Result Unit Full) (b : Binding) (bs' : List Binding) (used' : ℕ) → i < length ns → Ready ns bs cs used i → bs₁ ≡ bs → b ≡ binding ns i → Pushed taken bs₁ used b bs' used' → Pushed (Ok tt) bs used (binding ns i) bs' used'
pushed_own ns n bs bs₁ cs used i taken b bs' used' inside r q e h =
    let few = n.few in
    let room = r.room.0 in
    let fits = r.fits in
    let h₁ = subst (λ (xs : List Binding). Pushed taken xs used b bs' used') q h in
    pushed taken bs used (binding ns i) bs' used' (omega arith) (subst (λ (x : Binding). Pushed taken bs used x bs' used') e h₁)

-- The children of node i below node j are done; bs₀ is from before them.
pub record Going (ns : List Node) (i : ℕ) (bs₀ : List Binding) (mark j : ℕ) (bs : List Binding) (cs : List Context) (used : ℕ) : Type 0 where
  pub past : i < j
  pub most : j ≤ end ns i
  pub child : j < end ns i → Child (end ns) i j
  pub ready : j < end ns i → Ready ns bs cs used j
  pub above : mark ≤ used
  pub room : (length bs ≡ 1024) × (length cs ≡ 1024)
  pub kept : take mark bs ≡ take mark bs₀
  pub known : Known ns cs j

pub going_first : (ns : List Node) → Nested ns → (bs : List Binding) (cs : List Context) (used i : ℕ) → i < length ns → Entered ns bs cs used i → Going ns i bs used (i + 1) bs cs used
going_first ns n bs cs used i inside r =
    let s = n.spans in
    let z = s.sized i inside in
    let w = s.within i inside in
    record {
      past = omega arith;
      most = omega arith;
      child = λ h. child_first ns s i h;
      ready = λ h. record {
        room = r.room;
        fits = r.fits;
        names = r.names h;
        known = r.known;
      };
      above = omega arith;
      room = r.room;
      kept = refl;
      known = r.known;
    }

module _ (ns : List Node) (n : Nested ns) (i : ℕ) (bs₀ : List Binding) (mark j : ℕ) (bs : List Binding) (cs : List Context) (used : ℕ)
    (g : Going ns i bs₀ mark j bs cs used) (inner : i < length ns) where
  pub going_next : (bs' : List Binding) (cs' : List Context) (used' next : ℕ) → j < end ns i → next ≡ end ns j → Walked ns (end ns j) (own ns j) bs used bs' cs' used' → Going ns i bs₀ mark next bs' cs' used'
  going_next bs' cs' used' next h q w =
      let r = g.ready h in
      let s = n.spans in
      let l = s.within i inner in
      let inside : j < length ns = omega arith in
      let z = s.sized j inside in
      let x = s.nested i j inner g.past h in
      let f = r.fits in
      let few = n.few in
      let k = w.count in
      let o = own_few ns j in
      let p = g.past in
      let a = g.above in
      let room = r.room.0 in
      subst (λ (m : ℕ). Going ns i bs₀ mark m bs' cs' used') (sym q)
      (record {
        past = omega arith;
        most = x;
        child = λ y. child_next ns s i j (g.child h) z y;
        ready = λ y. record {
          room = w.room;
          fits = omega arith;
          names = w.names ∙ ap (λ xs. xs ++ own ns j) r.names ∙ sym (in_force_next ns s i j (g.child h) z y);
          known = w.known;
        };
        above = omega arith;
        room = w.room;
        kept = take_below mark used used' bs bs' (own ns j) a (omega arith) (omega arith) w.names ∙ g.kept;
        known = w.known;
      })

  pub going_done : (used' : ℕ) → end ns i ≤ j → used' ≡ mark → Walked ns (end ns i) [] bs₀ mark bs cs used'
  going_done used' h q =
      let m = g.most in
      let e : j ≡ end ns i = omega arith in
      record {
        room = g.room;
        count = omega arith;
        names = ap (λ n. take n bs) q ∙ g.kept ∙ sym (append-nil (take mark bs₀));
        known = subst (λ (m : ℕ). Known ns cs m) e g.known;
      }

-- The children of node i that are left are those from some node on, below which they are done.
pub record Turning (ns : List Node) (i : ℕ) (bs₀ : List Binding) (mark : ℕ) (left : List ℕ) (bs : List Binding) (cs : List Context) (used : ℕ) : Type 0 where
  pub next : ℕ
  pub going : Going ns i bs₀ mark next bs cs used
  pub come : left ≡ kin ns next (end ns i)

pub turning_first : (ns : List Node) → Nested ns → (bs : List Binding) (cs : List Context) (used i : ℕ) (left : List ℕ) → i < length ns → Entered ns bs cs used i → left ≡ parts ns i → Turning ns i bs used left bs cs used
turning_first ns n bs cs used i left inside r e =
    record { next = i + 1; going = going_first ns n bs cs used i inside r; come = e ∙ sym (kin_parts ns i) }

-- where some are left, the first of them is the next node
first_left : (ns : List Node) → Nested ns → (i : ℕ) → i < length ns → (m j : ℕ) (left : List ℕ) → j ∷ left ≡ kin ns m (end ns i) → (m < end ns i) × ((j ≡ m) × (left ≡ kin ns (end ns m) (end ns i)))
first_left ns n i inside m j left e =
    elim (cases_lt m (end ns i)) [
      | inl lt ↦ let more = e ∙ kin_more ns m (end ns i) n (n.spans.within i inside) lt in (lt, (cc, cc))
      | inr le ↦ let none = e ∙ kin_none ns m (end ns i) le in cc
    ]

module _ (ns : List Node) (n : Nested ns) (i : ℕ) (inside : i < length ns) (bs₀ : List Binding) (mark : ℕ) (bs : List Binding) (cs : List Context) (used : ℕ) where
  -- before the child j
  pub turning_child : (j : ℕ) (left : List ℕ) → Turning ns i bs₀ mark (j ∷ left) bs cs used → (j < length ns) × (Child (end ns) i j × Ready ns bs cs used j)
  turning_child j left t =
      let f = first_left ns n i inside t.next j left t.come in
      let low = f.0 in
      let w = n.spans.within i inside in
      subst (λ (m : ℕ). (m < length ns) × (Child (end ns) i m × Ready ns bs cs used m)) (sym f.1.0) (omega arith, (t.going.child f.0, t.going.ready f.0))

  pub turning_next : (j : ℕ) (left : List ℕ) → Turning ns i bs₀ mark (j ∷ left) bs cs used → (bs' : List Binding) (cs' : List Context) (used' : ℕ) → Walked ns (end ns j) (own ns j) bs used bs' cs' used' → Turning ns i bs₀ mark left bs' cs' used'
  turning_next j left t bs' cs' used' w =
      let f = first_left ns n i inside t.next j left t.come in
      record {
        next = end ns j;
        going = going_next ns n i bs₀ mark j bs cs used (subst (λ (m : ℕ). Going ns i bs₀ mark m bs cs used) (sym f.1.0) t.going) inside bs' cs' used' (end ns j) (subst (λ (m : ℕ). m < end ns i) (sym f.1.0) f.0) refl w;
        come = f.1.1 ∙ ap (λ m. kin ns (end ns m) (end ns i)) (sym f.1.0);
      }

  pub turning_done : Turning ns i bs₀ mark [] bs cs used → (used' : ℕ) → used' ≡ mark → Walked ns (end ns i) [] bs₀ mark bs cs used'
  turning_done t used' q =
      elim (cases_lt t.next (end ns i)) [
        | inl lt ↦ let more = t.come ∙ kin_more ns t.next (end ns i) n (n.spans.within i inside) lt in cc
        | inr le ↦ going_done ns n i bs₀ mark t.next bs cs used t.going inside used' le q
      ]

known_program : (ns : List Node) → Nested ns → (k : ℕ) → k < 1 → get_or (replicate 1024 vacant) k vacant ≡ context ns k
known_program ns n zero h = sym (program_context ns n)
known_program ns n (suc k) h = absurd (omega arith)

-- before the program's children
pub begun : (ns : List Node) (b : Binding) → Nested ns → Entered ns (replicate 1024 b) (replicate 1024 vacant) 0 0
begun ns b n =
    let k : declares ns 0 ≡ false = ap (between 2 6) n.program in
    record {
      room = (length-replicate 1024 b, length-replicate 1024 vacant);
      fits = omega arith;
      names = λ h. sym (in_force_program ns n.spans h k);
      known = known_program ns n;
    }
