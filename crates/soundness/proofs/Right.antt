-- The turns of literals, scalar locations, blocks, ifs, binary operators and assignments are right.
use Rattle.std.proofs.Common.{◌≡◌, ℕ, suc, ◌+◌, ◌<◌, ◌≤◌, Bool, true, false, eqb, ltb, ◌⊎◌, List, length, Some, None, Option, sym, refl, ap, ◌∙◌, inl, inr, add-zero, arith, length-set}
use Rattle.std.proofs.lemmas.Bool.{ltb-true}
use Rattle.std.proofs.lemmas.Bool.Decides.{nat_tests}
use Rattle.book.specs.Meanings.{Meaning}
use Rattle.nodes.specs.Kinds.{number}
use Rattle.nodes.specs.declared.kind.Kind.{Kind}
use Rattle.nodes.specs.declared.kind.Kind.TheVariants as kind
use Rattle.node_rules.specs.Scopes.{cells_of}
use Rattle.node_rules.specs.declared.types.Ty.{Ty}
use Rattle.node_rules.specs.declared.types.Ty.TheVariants as ty
use Rattle.semantics.specs.Rule.{Rule, node, kind_at, end, child, has, first_statement, address}
use Rattle.semantics.specs.Values.{is_of, literal, operator}
use Rattle.semantics.specs.Turns.{Turn, runs, ends, on_end}
use Rattle.semantics.specs.Kinds.{scalar_turn, block_on, assignment_turn, if_turn, left_turn, binary_turn, started, resumed}
use Rattle.semantics.specs.Acts.{first_came}
use Rattle.semantics.specs.declared.value.Value.{Value}
use Rattle.semantics.specs.declared.value.Value.TheVariants.{Bool as Truth}
use Rattle.semantics.specs.declared.value.Operator.{Operator}
use Rattle.semantics.specs.declared.value.Operator.TheVariants.{Add, Subtract, Multiply, Divide, Remainder, Less, Greater, AtMost, AtLeast, Equal, NotEqual, And, Or}
use Rattle.semantics.specs.declared.progress.Completion.{Completion}
use Rattle.semantics.specs.declared.progress.Completion.TheVariants.{Ended, Valued, Located, Broke, Continued}
use Rattle.semantics.specs.declared.progress.Kept.TheVariants.{Target, Left}
use Rattle.semantics.specs.declared.progress.Open.{Open}
use Rattle.soundness.specs.Checked.{offset, looped, operator_type, Inner, GoodBlock, GoodAssignment, GoodIf, GoodLocation, GoodBinary}
use Rattle.soundness.proofs.Safe.{Holds, Gives, WaitsBy}
use Rattle.soundness.proofs.Keeping.{keeps_take}
use Rattle.soundness.proofs.Turning.{Stands, Right}
use Rattle.soundness.proofs.Operating.{op_fits, like_same, assigned_fits}
use Rattle.soundness.proofs.Steps.{no_needs, to_expression, to_location, to_inner, value_right, cell_right, end_right, truth_right, out_right, either, kept_value_right, kept_cell_right, some_right}

-- ── A literal ──

pub literal_starts : (r : Rule) (type : ℕ → Option Ty) (cs : List Value) (m : Meaning) (o : Open) → is_of (type o.node) (literal (node r o.node)) ≡ true → Stands r cs o → Right kind.Literal r type (started kind.Literal r o cs m) cs o
literal_starts r type cs m o g s = let u = s.used in (g, omega arith)

-- ── A scalar location ──

pub one_cell : (r : Rule) (d : ℕ) → (kind_at r d ≡ 3) ⊎ (kind_at r d ≡ 6) → 0 < cells_of (node r d)
one_cell r d (inl e) = rw (e, cells_of) (omega arith)
one_cell r d (inr e) = rw (e, cells_of) (omega arith)

-- the cell is there
pub scalar_by : (r : Rule) (type : ℕ → Option Ty) (cs : List Value) (o : Open) (d : ℕ) (t : Option Ty) (f : ℕ → Value → Turn) → (kind_at r d ≡ 3) ⊎ (kind_at r d ≡ 6) → (k : Kind) (h : Holds cs (address r o.frame d) t) → Right k r type (f (address r o.frame d) h.held) cs o → Right k r type (scalar_turn r o cs d f) cs o
scalar_by r type cs o d t f (inl e) k h x = rw (e, scalar_turn, h.there) x
scalar_by r type cs o d t f (inr e) k h x =
    let three : eqb (kind_at r d) 3 ≡ false = rw e refl in
    let six : eqb (kind_at r d) 6 ≡ true = rw e refl in
    rw (three, scalar_turn, six, h.there) x

pub location_starts : (r : Rule) (type : ℕ → Option Ty) (cs : List Value) (m : Meaning) (o : Open) → GoodLocation r type o.node → Stands r cs o → Right kind.ScalarLocation r type (started kind.ScalarLocation r o cs m) cs o
location_starts r type cs m o g s =
    let u = s.used in
    let c = rw add-zero at (s.room.seen g.declaration g.names.seen 0 (one_cell r g.declaration g.names.scalar)) in
    let low = c.0 in
    let found : Right kind.ScalarLocation r type (ends (Located (address r o.frame g.declaration) c.1.held)) cs o =
    ((low, rw g.typed (keeps_take o.base cs _ _ low c.1), rw g.typed c.1.typed), omega arith)
    in
    some_right kind.ScalarLocation r type cs o _ _ _ g.names.meant (scalar_by r type cs o g.declaration _ (λ a v. ends (Located a v)) g.names.scalar kind.ScalarLocation c.1 found)

-- ── A block ──

block_next : (r : Rule) (type : ℕ → Option Ty) (cs : List Value) (o : Open) (c k : ℕ) → GoodBlock r o.node → Stands r cs o → o.base ≡ o.frame + offset r o.node → c ≡ child r o.node k → c < end r o.node → first_statement r o.node ≤ c → Right kind.Block r type (runs (end r c) None c) cs o
block_next r type cs o c k g s v e lt le =
    let at : child r o.node k < end r o.node = rw e at lt in
    let there : has r o.node k ≡ true = grind (arith, nat_tests) in
    let behind : first_statement r o.node ≤ child r o.node k = rw e at le in
    rw e (to_inner kind.Block r type (end r (child r o.node k)) None _ cs o (g.inner k there behind) v s (record { index = k; came = refl; has = there; child = refl; behind = behind }, refl))

-- where the block has come to one of its children
abbrev Comes : Rule → ℕ → ℕ → Type 0
Comes r i c = c < end r i → (k : ℕ) × (c ≡ child r i k)

block_goes : (r : Rule) (type : ℕ → Option Ty) (cs : List Value) (o : Open) → GoodBlock r o.node → Stands r cs o → o.base ≡ o.frame + offset r o.node → Comes r o.node o.came → first_statement r o.node ≤ o.came → Right kind.Block r type (block_on r o) cs o
block_goes r type cs o g s v at le =
    let u = s.used in
    either kind.Block r type cs o (ltb o.came (end r o.node)) _ _
    (λ h. let lt = ltb-true _ _ h in let k = at lt in block_next r type cs o o.came k.0 g s v k.1 lt le)
    (λ h. (tt, omega arith))

pub block_starts : (r : Rule) (type : ℕ → Option Ty) (cs : List Value) (m : Meaning) (o : Open) → (node r o.node).kind ≡ kind.Block → GoodBlock r o.node → Stands r cs o → o.base ≡ o.frame + offset r o.node → o.came ≡ first_came r o.node → Right kind.Block r type (started kind.Block r o cs m) cs o
block_starts r type cs m o e g s v c =
    let seven : eqb (kind_at r o.node) 7 ≡ true = rw e refl in
    let came : first_came r o.node ≡ first_statement r o.node = rw (seven, first_came) refl in
    let at : o.came ≡ first_statement r o.node = c ∙ came in
    block_goes r type cs o g s v (λ lt. let k = g.first (omega arith) in (k.0, at ∙ sym k.1)) (omega arith)

pub block_goes_on : (r : Rule) (type : ℕ → Option Ty) (cs : List Value) (m : Meaning) (o : Open) (l j f : ℕ) (e : Completion) → GoodBlock r o.node → Stands r cs o → o.base ≡ o.frame + offset r o.node → WaitsBy kind.Block r type cs o j f → Gives r type cs l j e → Right kind.Block r type (resumed kind.Block r o cs m e) cs o
block_goes_on r type cs m o l j f e g s v w y =
    let i = w.0 in
    let u = s.used in
    let c = i.came in
    let le : first_statement r o.node ≤ child r o.node i.index = rw i.child at i.behind in
    let y' = rw i.child at y in
    let breaks = g.breaks i.index i.has le in
    end_right kind.Block r type l (child r o.node i.index) cs o e _ _ _ (g.inner i.index i.has le) y'
    (block_goes r type cs o g s v (λ lt. (suc i.index, c)) (omega arith))
    (λ h. (breaks h, omega arith))
    (λ h. (breaks h, omega arith))
    (λ x h. (h, omega arith))

-- ── An if ──

pub if_starts : (r : Rule) (type : ℕ → Option Ty) (cs : List Value) (m : Meaning) (o : Open) → GoodIf r type o.node → Stands r cs o → Right kind.If r type (started kind.If r o cs m) cs o
if_starts r type cs m o g s = to_expression kind.If r type 1 None _ ty.Bool cs o g.test s (inl (refl, refl), refl)

if_ends : (r : Rule) (type : ℕ → Option Ty) (cs : List Value) (o : Open) (l j : ℕ) (e : Completion) → Inner r o.node j → (looped r j ≡ true → looped r o.node ≡ true) → Stands r cs o → Gives r type cs l j e → Right kind.If r type (on_end e (ends Ended) (ends Broke) (ends Continued)) cs o
if_ends r type cs o l j e x b s y = let u = s.used in end_right kind.If r type l j cs o e _ _ _ x y (tt, omega arith) (λ h. (b h, omega arith)) (λ h. (b h, omega arith)) (λ z h. (h, omega arith))

pub if_goes_on : (r : Rule) (type : ℕ → Option Ty) (cs : List Value) (m : Meaning) (o : Open) (l j f : ℕ) (e : Completion) → GoodIf r type o.node → Stands r cs o → o.base ≡ o.frame + offset r o.node → WaitsBy kind.If r type cs o j f → Gives r type cs l j e → Right kind.If r type (resumed kind.If r o cs m e) cs o
if_goes_on r type cs m o l j f e g s v (inl w, q) y =
    let u = s.used in
    let one : eqb o.came 1 ≡ true = rw w.0 refl in
    rw (one, if_turn) (value_right kind.If r type l _ ty.Bool cs o e _ g.test (rw w.1 at y) (λ b h. truth_right kind.If r type cs o b _ _ h
    (to_inner kind.If r type 2 None _ cs o g.arm v s (inr (inl (refl, refl)), refl))
    (either kind.If r type cs o (has r o.node 2) _ _
    (λ z. to_inner kind.If r type 2 None _ cs o (g.other z) v s (inr (inr ((refl, refl), z)), refl))
    (λ z. (tt, omega arith)))))
if_goes_on r type cs m o l j f e g s v (inr (inl w), q) y =
    let two : eqb o.came 1 ≡ false = rw w.0 refl in
    rw (two, if_turn) (if_ends r type cs o l _ e g.arm g.breaks s (rw w.1 at y))
if_goes_on r type cs m o l j f e g s v (inr (inr w), q) y =
    let two : eqb o.came 1 ≡ false = rw w.0.0 refl in
    rw (two, if_turn) (if_ends r type cs o l _ e (g.other w.1) (g.breaks_other w.1) s (rw w.0.1 at y))

-- ── An operator ──

-- `&&` and `||` have truths
and_sort : (s m : Ty) → operator_type s And ≡ Some m → (s ≡ ty.Bool) × (m ≡ ty.Bool)
and_sort ty.Int m h = absurd (grind arith)
and_sort ty.Long m h = absurd (grind arith)
and_sort ty.Bool m h = (refl, cc)

or_sort : (s m : Ty) → operator_type s Or ≡ Some m → (s ≡ ty.Bool) × (m ≡ ty.Bool)
or_sort ty.Int m h = absurd (grind arith)
or_sort ty.Long m h = absurd (grind arith)
or_sort ty.Bool m h = (refl, cc)

pub binary_starts : (r : Rule) (type : ℕ → Option Ty) (cs : List Value) (m : Meaning) (o : Open) → GoodBinary r type o.node → Stands r cs o → Right kind.Binary r type (started kind.Binary r o cs m) cs o
binary_starts r type cs m o g s = to_expression kind.Binary r type 1 None _ g.sort cs o g.left s (inl (refl, refl), refl)

-- the left operand may decide
decides : (r : Rule) (type : ℕ → Option Ty) (cs : List Value) (o : Open) → (g : GoodBinary r type o.node) → Stands r cs o → (b : Bool) → g.made ≡ ty.Bool → Right kind.Binary r type (ends (Valued (Truth b))) cs o
decides r type cs o g s b t = let u = s.used in (rw (g.type_is, t) refl, omega arith)

goes_right : (r : Rule) (type : ℕ → Option Ty) (cs : List Value) (o : Open) → (g : GoodBinary r type o.node) → Stands r cs o → (v : Value) → is_of (Some g.sort) v ≡ true → Right kind.Binary r type (runs 2 (Some (Left v)) (child r o.node 1)) cs o
goes_right r type cs o g s v h = to_expression kind.Binary r type 2 (Some (Left v)) _ g.sort cs o g.right s (inr (record { at = (refl, refl); left = v; kept = refl; typed = rw g.left.typed h }), refl)

left_by : (r : Rule) (type : ℕ → Option Ty) (cs : List Value) (o : Open) → (g : GoodBinary r type o.node) → Stands r cs o → (v : Value) → is_of (Some g.sort) v ≡ true → (p : Operator) → operator_type g.sort p ≡ Some g.made → Right kind.Binary r type (left_turn r o (Some p) v) cs o
left_by r type cs o g s v h Add t = goes_right r type cs o g s v h
left_by r type cs o g s v h Subtract t = goes_right r type cs o g s v h
left_by r type cs o g s v h Multiply t = goes_right r type cs o g s v h
left_by r type cs o g s v h Divide t = goes_right r type cs o g s v h
left_by r type cs o g s v h Remainder t = goes_right r type cs o g s v h
left_by r type cs o g s v h Less t = goes_right r type cs o g s v h
left_by r type cs o g s v h Greater t = goes_right r type cs o g s v h
left_by r type cs o g s v h AtMost t = goes_right r type cs o g s v h
left_by r type cs o g s v h AtLeast t = goes_right r type cs o g s v h
left_by r type cs o g s v h Equal t = goes_right r type cs o g s v h
left_by r type cs o g s v h NotEqual t = goes_right r type cs o g s v h
left_by r type cs o g s v h And t =
    let x = and_sort g.sort g.made t in
    truth_right kind.Binary r type cs o v _ _ (rw x.0 at h) (goes_right r type cs o g s v h) (decides r type cs o g s false x.1)
left_by r type cs o g s v h Or t =
    let x = or_sort g.sort g.made t in
    truth_right kind.Binary r type cs o v _ _ (rw x.0 at h) (decides r type cs o g s true x.1) (goes_right r type cs o g s v h)

left_right : (r : Rule) (type : ℕ → Option Ty) (cs : List Value) (o : Open) → (g : GoodBinary r type o.node) → Stands r cs o → (v : Value) → is_of (Some g.sort) v ≡ true → Right kind.Binary r type (left_turn r o (operator (node r o.node).tag) v) cs o
left_right r type cs o g s v h = rw g.is_op (left_by r type cs o g s v h g.op g.typed)

pub binary_goes_on : (r : Rule) (type : ℕ → Option Ty) (cs : List Value) (m : Meaning) (o : Open) (l j f : ℕ) (e : Completion) → GoodBinary r type o.node → Stands r cs o → WaitsBy kind.Binary r type cs o j f → Gives r type cs l j e → Right kind.Binary r type (resumed kind.Binary r o cs m e) cs o
binary_goes_on r type cs m o l j f e g s (inl w, q) y =
    let one : eqb o.came 1 ≡ true = rw w.0 refl in
    rw (one, binary_turn) (value_right kind.Binary r type l _ g.sort cs o e _ g.left (rw w.1 at y) (λ v h. left_right r type cs o g s v h))
binary_goes_on r type cs m o l j f e g s (inr w, q) y =
    let u = s.used in
    let two : eqb o.came 1 ≡ false = rw w.at.0 refl in
    rw (two, binary_turn) (value_right kind.Binary r type l _ g.sort cs o e _ g.right (rw w.at.1 at y) (λ v h.
    kept_value_right kind.Binary r type cs o o.kept w.left _ w.kept (out_right kind.Binary r type cs o o.node (Some g.made) _ _
    (op_fits g.sort g.made g.op _ w.left v g.is_op g.typed (rw g.left.typed at w.typed) h)
    (λ x k. (rw g.type_is k, omega arith)))))

-- ── An assignment ──

pub assignment_starts : (r : Rule) (type : ℕ → Option Ty) (cs : List Value) (m : Meaning) (o : Open) → GoodAssignment r type o.node → Stands r cs o → Right kind.Assignment r type (started kind.Assignment r o cs m) cs o
assignment_starts r type cs m o g s = to_location kind.Assignment r type 1 None _ g.sort cs o g.left s (inl (refl, refl), refl)

pub assignment_goes_on : (r : Rule) (type : ℕ → Option Ty) (cs : List Value) (m : Meaning) (o : Open) (j f : ℕ) (e : Completion) → (node r o.node).kind ≡ kind.Assignment → GoodAssignment r type o.node → Stands r cs o → WaitsBy kind.Assignment r type cs o j f → Gives r type cs (length cs) j e → Right kind.Assignment r type (resumed kind.Assignment r o cs m e) cs o
assignment_goes_on r type cs m o j f e k g s (inl w, q) y =
    let one : eqb o.came 1 ≡ true = rw w.0 refl in
    let n = no_needs r o.node 8 (ap number k) refl refl in
    let u = s.used in
    rw (one, assignment_turn) (cell_right kind.Assignment r type (length cs) _ g.sort cs o e _ g.left (rw w.1 at y) (λ a v lt h t.
    to_expression kind.Assignment r type 2 (Some (Target a)) _ g.sort cs o g.right s
    (inr (record { at = (refl, refl); target = a; kept = refl; low = omega arith; holds = h }), refl)))
assignment_goes_on r type cs m o j f e k g s (inr w, q) y =
    let two : eqb o.came 1 ≡ false = rw w.at.0 refl in
    let u = s.used in
    let old = rw g.left.typed at w.holds.typed in
    rw (two, assignment_turn) (value_right kind.Assignment r type (length cs) _ g.sort cs o e _ g.right (rw w.at.1 at y) (λ v h.
    kept_cell_right kind.Assignment r type cs o o.kept w.target _ w.kept (some_right kind.Assignment r type cs o _ _ _ w.holds.there (out_right kind.Assignment r type cs o o.node (Some g.sort) _ _
    (assigned_fits g.sort (node r o.node).tag w.holds.held v g.op old h)
    (λ x t. (inl (w.holds.held, w.holds.there, like_same g.sort w.holds.held x old t), (tt, rw length-set (omega arith))))))))
