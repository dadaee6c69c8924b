-- Beginning a node from a safe state leads to a safe state.
use Rattle.std.proofs.Common.{◌≡◌, ℕ, zero, suc, ◌+◌, ◌<◌, true, false, eqb, ltb, leb, List, [], ◌∷◌, ◌++◌, length, take, replicate, Some, None, Option, refl, ap, ◌∙◌, inl, inr, zero-add, arith, length-append}
use lib.ListN.{length-replicate}
use Rattle.std.proofs.lemmas.Bool.{cases_Bool}
use Rattle.std.specs.List.{slice_get}
use Rattle.node_rules.specs.Rules.{cells_all}
use Rattle.node_rules.specs.Scopes.{cells_of, place}
use Rattle.node_rules.specs.Types.{tagged}
use Rattle.node_rules.specs.declared.types.Ty.{Ty}
use Rattle.node_rules.specs.declared.types.Ty.TheVariants as ty
use Rattle.semantics.specs.Rule.{Rule, node, kind_at, children, is_field, address}
use Rattle.semantics.specs.Values.{is_of, zero_of, fresh}
use Rattle.semantics.specs.Acts.{State, needs, takes, begun, begin_act, origin}
use Rattle.semantics.specs.declared.value.Value.{Value}
use Rattle.soundness.specs.Checked.{offset, Own, main_body, GoodMain}
use Rattle.soundness.proofs.Classes.{is_block}
use Rattle.soundness.proofs.Safe.{KeptCells, Held, Level, Ready, Safe, Sound}
use Rattle.soundness.proofs.Keeping.{keeps_cells, keeps_stack, keeps_append}

length_fresh : (r : Rule) (ds : List ℕ) → length (fresh r ds) ≡ cells_all r.nodes ds
length_fresh r [] = refl
length_fresh r (d ∷ ds) =
    let a = length-append (replicate (cells_of (node r d)) (zero_of (tagged (node r d).tag))) (fresh r ds) in
    let b = length-replicate (cells_of (node r d)) (zero_of (tagged (node r d).tag)) in
    let c = length_fresh r ds in
    omega arith

pub length_takes : (r : Rule) (i : ℕ) → length (takes r i) ≡ needs r i
length_takes r i = elim (cases_Bool (eqb (kind_at r i) 7)) [
  | inl e ↦ rw (e, takes, needs) (length_fresh r (children r i))
  | inr e ↦ elim (cases_Bool (eqb (kind_at r i) 22)) [
    | inl f ↦ rw (e, takes, needs, f) (length-replicate (length (children r i)) _)
    | inr f ↦ rw (e, takes, needs, f) refl
  ]
]

zero_typed : (x : Option Ty) (t : Ty) → x ≡ Some t → is_of x (zero_of x) ≡ true
zero_typed None t h = absurd (grind arith)
zero_typed (Some ty.Int) t h = refl
zero_typed (Some ty.Long) t h = refl
zero_typed (Some ty.Bool) t h = refl

nth_behind : (cs ds : List Value) (a b : ℕ) → b ≡ length cs + a → slice_get (cs ++ ds) b ≡ slice_get ds a
nth_behind [] ds a b e = let f : b ≡ a = omega arith in rw f refl
nth_behind (c ∷ cs) ds a zero e = absurd (omega arith)
nth_behind (c ∷ cs) ds a (suc b) e = nth_behind cs ds a b (omega arith)

nth_replicate : (n x : ℕ) (v : Value) (ds : List Value) → x < n → slice_get (replicate n v ++ ds) x ≡ Some v
nth_replicate zero x v ds lt = absurd (omega arith)
nth_replicate (suc n) zero v ds lt = refl
nth_replicate (suc n) (suc x) v ds lt = nth_replicate n x v ds (omega arith)

-- what a cell of declaration d holds at first
abbrev first_value : Rule → ℕ → Value
first_value r d = zero_of (tagged (node r d).tag)

-- a fresh cell of the declaration with the number q among some
fresh_cell : (r : Rule) (ds : List ℕ) (q x d : ℕ) → slice_get ds q ≡ Some d → x < cells_of (node r d) → (cells_all r.nodes (take q ds) + x < cells_all r.nodes ds) × (slice_get (fresh r ds) (cells_all r.nodes (take q ds) + x) ≡ Some (first_value r d))
fresh_cell r [] q x d h lt = absurd (grind arith)
fresh_cell r (y ∷ ds) zero x d h lt =
    let e : y ≡ d = cc in
    let lt' : x < cells_of (node r y) = rw e lt in
    let same : first_value r y ≡ first_value r d = rw e refl in
    (rw zero-add (omega arith), rw zero-add (nth_replicate (cells_of (node r y)) x (first_value r y) (fresh r ds) lt' ∙ ap Some same))
fresh_cell r (y ∷ ds) (suc q) x d h lt =
    let p = fresh_cell r ds q x d h lt in
    let l = p.0 in
    let w = length-replicate (cells_of (node r y)) (first_value r y) in
    (omega arith, nth_behind (replicate (cells_of (node r y)) (first_value r y)) (fresh r ds) (cells_all r.nodes (take q ds) + x) _ (omega arith) ∙ p.1)

local_address : (r : Rule) (f d : ℕ) → is_field r d ≡ false → address r f d ≡ f + place r.nodes d
unfolding address
local_address r f d h = rw h refl

-- the own variables of a block that has just begun
own_cells : (r : Rule) (cs : List Value) (f j d : ℕ) → Level r (length cs) f j → Own r j d → KeptCells r (cs ++ takes r j) (length (cs ++ takes r j)) f d
own_cells r cs f j d v o x lt =
    let e = is_block (node r j).kind o.block in
    let level : length cs ≡ f + offset r j = rw e at v in
    let seven : eqb (kind_at r j) 7 ≡ true = rw o.block refl in
    let t : takes r j ≡ fresh r (children r j) = rw (seven, takes) refl in
    let z = o.declared in
    let c = fresh_cell r (children r j) z.index x d z.here lt in
    let inside = c.0 in
    let a = local_address r f d o.local in
    let off = z.cell in
    let n = length-append cs (takes r j) in
    let m : length (takes r j) ≡ cells_all r.nodes (children r j) = ap length t ∙ length_fresh r (children r j) in (
      omega arith,
      record {
        held = first_value r d;
        there = rw t (nth_behind cs (fresh r (children r j)) (cells_all r.nodes (take z.index (children r j)) + x) _ (omega arith) ∙ c.1);
        typed = zero_typed (tagged (node r d).tag) z.sort z.typed;
      },
    )

begun_safe : (r : Rule) (type : ℕ → Option Ty) (s : State) (j f : ℕ) → Ready r type s j f → Safe r type (begun r s j f)
begun_safe r type s j f h =
    let n = length-append s.cells (takes r j) in
    let t = length_takes r j in
    record {
      stack = keeps_stack r type s.cells (s.cells ++ takes r j) (length s.cells) j f s.opens (keeps_append (length s.cells) s.cells (takes r j)) h.stack;
      came = refl;
      room = record {
        seen = λ d x. keeps_cells r s.cells (s.cells ++ takes r j) (length s.cells) f d (keeps_append (length s.cells) s.cells (takes r j)) (h.held d x);
        own = λ d o. own_cells r s.cells f j d h.level o;
      };
      used = omega arith;
      level = h.level;
    }

pub begin_safe : (r : Rule) (type : ℕ → Option Ty) (s : State) (j f : ℕ) → Ready r type s j f → Sound r type (begin_act r s j f)
begin_safe r type s j f h = elim (cases_Bool (ltb (length s.opens) 512)) [
  | inl a ↦ elim (cases_Bool (leb (length s.cells + needs r j) 2048)) [
    | inl b ↦ rw (a, begin_act, b) (begun_safe r type s j f h)
    | inr b ↦ rw (a, begin_act, b) tt
  ]
  | inr a ↦ rw (a, begin_act) tt
]

-- A rule that has been set under way is in a safe state.
field_address : (r : Rule) (f d : ℕ) → is_field r d ≡ true → address r f d ≡ place r.nodes d
unfolding address
field_address r f d h = rw h (zero-add (place r.nodes d))

pub origin_safe : (r : Rule) (type : ℕ → Option Ty) → GoodMain r → Safe r type (origin r)
unfolding origin
origin_safe r type g = record { stack = refl; held = held; level = rw (is_block _ g.is_block) level }
  where
    level : length (fresh r (children r 0)) ≡ length (fresh r (children r 0)) + offset r (main_body r)
    level = let e = g.behind in omega arith

    held : Held r (fresh r (children r 0)) (length (fresh r (children r 0))) (length (fresh r (children r 0))) (main_body r)
    held d h x lt =
        let n = g.names d h in
        let z = n.1 in
        let c = fresh_cell r (children r 0) z.index x d z.here lt in
        let inside = c.0 in
        let a = field_address r (length (fresh r (children r 0))) d n.0 in
        let off = z.cell in
        let l = length_fresh r (children r 0) in
        let same : address r (length (fresh r (children r 0))) d + x ≡ cells_all r.nodes (take z.index (children r 0)) + x = omega arith in
        (omega arith, record { held = first_value r d; there = rw same c.1; typed = zero_typed (tagged (node r d).tag) z.sort z.typed })
