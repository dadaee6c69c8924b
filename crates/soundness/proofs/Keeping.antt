-- What an act leaves of the cells: a safe stack stays safe over every change that keeps the types below it.
use Rattle.std.proofs.Common.{◌≡◌, ℕ, zero, suc, ◌+◌, ◌<◌, ◌≤◌, true, List, [], ◌∷◌, ◌++◌, take, set, Some, None, Option, sym, refl, ◌∙◌, inl, inr, arith}
use Rattle.std.specs.List.{slice_get}
use Rattle.nodes.specs.declared.kind.Kind.{Kind}
use Rattle.nodes.specs.declared.kind.Kind.TheVariants as kind
use Rattle.node_rules.specs.declared.types.Ty.{Ty}
use Rattle.semantics.specs.Rule.{Rule, node, parameters}
use Rattle.semantics.specs.Values.{is_of}
use Rattle.semantics.specs.Acts.{needs}
use Rattle.semantics.specs.declared.value.Value.{Value}
use Rattle.semantics.specs.declared.progress.Open.{Open}
use Rattle.soundness.proofs.Safe.{Holds, KeptCells, Room, WaitsStored, FilledBy, WaitsArgument, WaitsBy, Stack}

-- Every cell below l holds a value of the type that it held.
abbrev pub Keeps : List Value → List Value → ℕ → Type 0
Keeps cs ds l = (a : ℕ) (t : Option Ty) → a < l → Holds cs a t → Holds ds a t

pub keeps_lower : (cs ds : List Value) (l k : ℕ) → k ≤ l → Keeps cs ds l → Keeps cs ds k
keeps_lower cs ds l k le h a t lt x = h a t (omega arith) x

pub keeps_cells : (r : Rule) (cs ds : List Value) (l f d : ℕ) → Keeps cs ds l → KeptCells r cs l f d → KeptCells r ds l f d
keeps_cells r cs ds l f d h k x lt = let p = k x lt in (p.0, h _ _ p.0 p.1)

pub keeps_room : (r : Rule) (cs ds : List Value) (b l f i : ℕ) → b ≤ l → Keeps cs ds l → Room r cs b l f i → Room r ds b l f i
keeps_room r cs ds b l f i le h k = record { seen = λ d s. keeps_cells r cs ds b f d (keeps_lower cs ds l b le h) (k.seen d s); own = λ d o. keeps_cells r cs ds l f d h (k.own d o) }

-- More cells in use do no harm.
pub cells_higher : (r : Rule) (cs : List Value) (l k f d : ℕ) → l ≤ k → KeptCells r cs l f d → KeptCells r cs k f d
cells_higher r cs l k f d le h x lt = let p = h x lt in let q = p.0 in (omega arith, p.1)

keeps_filled : (r : Rule) (o : Option ℕ) (cs ds : List Value) (l a : ℕ) → a < l → Keeps cs ds l → FilledBy r o cs a → FilledBy r o ds a
keeps_filled r None cs ds l a lt h x = x
keeps_filled r (Some n) cs ds l a lt h x = h a _ lt x

keeps_stored : (r : Rule) (type : ℕ → Option Ty) (cs ds : List Value) (l : ℕ) (o : Open) (j : ℕ) → o.base ≤ l → Keeps cs ds l → WaitsStored r type cs o j → WaitsStored r type ds o j
keeps_stored r type cs ds l o j le h w = let lt = w.low in record { at = w.at; target = w.target; kept = w.kept; low = w.low; holds = h _ _ (omega arith) w.holds }

keeps_argument : (r : Rule) (cs ds : List Value) (l : ℕ) (o : Open) (j : ℕ) → l ≡ o.base + needs r o.node → Keeps cs ds l → WaitsArgument r cs o j → WaitsArgument r ds o j
keeps_argument r cs ds l o j e h w = let lt = w.inside in record {
  index = w.index;
  item = w.item;
  few = w.few;
  inside = w.inside;
  filled = λ d m k q x. keeps_filled r (slice_get (parameters r d) q) cs ds l (o.base + q) (omega arith) h (w.filled d m k q x);
}

keeps_waits : (k : Kind) (r : Rule) (type : ℕ → Option Ty) (cs ds : List Value) (l : ℕ) (o : Open) (j f : ℕ) → l ≡ o.base + needs r o.node → Keeps cs ds l → WaitsBy k r type cs o j f → WaitsBy k r type ds o j f
keeps_waits kind.Program r type cs ds l o j f e h w = w
keeps_waits kind.Import r type cs ds l o j f e h w = w
keeps_waits kind.ScalarDeclaration r type cs ds l o j f e h w = w
keeps_waits kind.ArrayDeclaration r type cs ds l o j f e h w = w
keeps_waits kind.Method r type cs ds l o j f e h w = w
keeps_waits kind.Parameter r type cs ds l o j f e h w = w
keeps_waits kind.Block r type cs ds l o j f e h w = w
keeps_waits kind.Assignment r type cs ds l o j f e h w = (elim w.0 [ inl a ↦ inl a | inr b ↦ inr (keeps_stored r type cs ds l o j (omega arith) h b) ], w.1)
keeps_waits kind.Step r type cs ds l o j f e h w = w
keeps_waits kind.CallStatement r type cs ds l o j f e h w = w
keeps_waits kind.If r type cs ds l o j f e h w = w
keeps_waits kind.For r type cs ds l o j f e h w = w
keeps_waits kind.While r type cs ds l o j f e h w = w
keeps_waits kind.Return r type cs ds l o j f e h w = w
keeps_waits kind.Break r type cs ds l o j f e h w = w
keeps_waits kind.Continue r type cs ds l o j f e h w = w
keeps_waits kind.ScalarLocation r type cs ds l o j f e h w = w
keeps_waits kind.ArrayLocation r type cs ds l o j f e h w = w
keeps_waits kind.Literal r type cs ds l o j f e h w = w
keeps_waits kind.Unary r type cs ds l o j f e h w = w
keeps_waits kind.Cast r type cs ds l o j f e h w = w
keeps_waits kind.Call r type cs ds l o j f e h w = elim w [ inl a ↦ inl (keeps_argument r cs ds l o j e h a.0, a.1) | inr b ↦ inr b ]
keeps_waits kind.Len r type cs ds l o j f e h w = w
keeps_waits kind.Binary r type cs ds l o j f e h w = w
keeps_waits kind.Text r type cs ds l o j f e h w = w

-- The whole stack.
pub keeps_stack : (r : Rule) (type : ℕ → Option Ty) (cs ds : List Value) (l j f : ℕ) (os : List Open) → Keeps cs ds l → Stack r type cs l j f os → Stack r type ds l j f os
keeps_stack r type cs ds l j f [] h s = s
keeps_stack r type cs ds l j f (o ∷ os) h s =
    let u = s.used in
    record {
      waits = keeps_waits (node r o.node).kind r type cs ds l o j f u h s.waits;
      room = keeps_room r cs ds o.base l o.frame o.node (omega arith) h s.room;
      used = u;
      level = s.level;
      rest = keeps_stack r type cs ds o.base o.node o.frame os (keeps_lower cs ds l o.base (omega arith) h) s.rest;
    }

-- Cells cut behind l, cells set to a value of the same type, and cells added keep the rest.
nth_take : (l a : ℕ) (cs : List Value) → a < l → slice_get (take l cs) a ≡ slice_get cs a
nth_take zero a cs lt = absurd (omega arith)
nth_take (suc l) a [] lt = refl
nth_take (suc l) zero (c ∷ cs) lt = refl
nth_take (suc l) (suc a) (c ∷ cs) lt = nth_take l a cs (omega arith)

pub keeps_take : (l : ℕ) (cs : List Value) → Keeps cs (take l cs) l
keeps_take l cs a t lt h = record { held = h.held; there = nth_take l a cs lt ∙ h.there; typed = h.typed }

nth_append : (cs ds : List Value) (a : ℕ) (v : Value) → slice_get cs a ≡ Some v → slice_get (cs ++ ds) a ≡ Some v
nth_append [] ds a v h = absurd (grind arith)
nth_append (c ∷ cs) ds zero v h = h
nth_append (c ∷ cs) ds (suc a) v h = nth_append cs ds a v h

pub keeps_append : (l : ℕ) (cs ds : List Value) → Keeps cs (cs ++ ds) l
keeps_append l cs ds a t lt h = record { held = h.held; there = nth_append cs ds a h.held h.there; typed = h.typed }

-- A value that has every type that another has.
abbrev pub Like : Value → Value → Type 0
Like u v = (t : Option Ty) → is_of t u ≡ true → is_of t v ≡ true

set_holds : (cs : List Value) (b a : ℕ) (u v : Value) (t : Option Ty) → slice_get cs b ≡ Some u → Like u v → Holds cs a t → Holds (set cs b v) a t
set_holds [] b a u v t e like h = h
set_holds (c ∷ cs) zero zero u v t e like h =
    let x : c ≡ u = cc in
    let y : c ≡ h.held = cc h.there in
    record { held = v; there = refl; typed = like t (rw (sym x ∙ y) h.typed) }
set_holds (c ∷ cs) zero (suc a) u v t e like h = record { held = h.held; there = h.there; typed = h.typed }
set_holds (c ∷ cs) (suc b) zero u v t e like h = record { held = h.held; there = h.there; typed = h.typed }
set_holds (c ∷ cs) (suc b) (suc a) u v t e like h = let k : Holds cs a t = record { held = h.held; there = h.there; typed = h.typed } in let z = set_holds cs b a u v t e like k in record { held = z.held; there = z.there; typed = z.typed }

pub keeps_set : (l : ℕ) (cs : List Value) (b : ℕ) (u v : Value) → slice_get cs b ≡ Some u → Like u v → Keeps cs (set cs b v) l
keeps_set l cs b u v e like a t lt h = set_holds cs b a u v t e like h

nth_set_other : (cs : List Value) (b a : ℕ) (v : Value) → a < b → slice_get (set cs b v) a ≡ slice_get cs a
nth_set_other [] b a v lt = refl
nth_set_other (c ∷ cs) zero a v lt = absurd (omega arith)
nth_set_other (c ∷ cs) (suc b) zero v lt = refl
nth_set_other (c ∷ cs) (suc b) (suc a) v lt = nth_set_other cs b a v (omega arith)

pub keeps_set_behind : (l : ℕ) (cs : List Value) (b : ℕ) (v : Value) → l ≤ b → Keeps cs (set cs b v) l
keeps_set_behind l cs b v le a t lt h = record { held = h.held; there = nth_set_other cs b a v (omega arith) ∙ h.there; typed = h.typed }
