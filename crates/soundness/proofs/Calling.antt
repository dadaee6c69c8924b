-- The turns of a call are right.
use Rattle.std.proofs.Common.{◌≡◌, ℕ, zero, suc, ◌+◌, ◌-◌, ◌<◌, ◌≤◌, Bool, true, false, ◌&&◌, eqb, ◌⊎◌, List, [], ◌∷◌, length, drop, set, ℤ, Some, None, Ok, Err, Option, Result, sym, refl, ◌∙◌, inl, inr, arith, length-set}
use Rattle.std.proofs.lemmas.Bool.{true≢false, and_from, cases_lt}
use Rattle.std.proofs.lemmas.Bool.Decides.{nat_tests}
use Rattle.std.specs.List.{slice_get}
use Rattle.std.proofs.lemmas.Option.{slice_get_within}
use Rattle.book.specs.Meanings.{Meaning, get_answer, put_answer}
use Rattle.book.specs.declared.fault.BookFault.{BookFault}
use Rattle.nodes.specs.declared.kind.Kind.TheVariants as kind
use Rattle.node_rules.specs.Scopes.{body, cells_of, meant, place}
use Rattle.node_rules.specs.Types.{tagged}
use Rattle.node_rules.specs.declared.types.Ty.{Ty}
use Rattle.node_rules.specs.declared.types.Ty.TheVariants as ty
use Rattle.semantics.specs.Rule.{Rule, node, kind_at, has, children, parameters, is_field, address, name_of}
use Rattle.semantics.specs.Values.{is_of}
use Rattle.semantics.specs.Turns.{Turn, enters, sets, on_value, only_if}
use Rattle.semantics.specs.Imports.{import_of, column_of, request_of, on_column, put_turn, get_turn, held_turn, request_turn, import_turn}
use Rattle.semantics.specs.Kinds.{called, call_on, parameter_fits, suits, argument_turn, return_turn, fall_turn, result_turn, call_turn, started, resumed}
use Rattle.semantics.specs.Acts.{needs, first_came}
use Rattle.semantics.specs.declared.value.Value.{Value}
use Rattle.semantics.specs.declared.import.Import.{Import}
use Rattle.semantics.specs.declared.import.Request.{Request}
use Rattle.semantics.specs.declared.import.Request.TheVariants as request
use Rattle.semantics.specs.declared.progress.Completion.{Completion}
use Rattle.semantics.specs.declared.progress.Completion.TheVariants.{Ended, Valued, Located, Broke, Continued, Returned}
use Rattle.semantics.specs.declared.progress.Open.{Open}
use Rattle.soundness.specs.Checked.{sees, offset, looped, result, Argument, GoodMethodCall, GoodCall}
use Rattle.soundness.proofs.Classes.{class_at, is_expression, is_block, is_text}
use Rattle.soundness.proofs.Safe.{KeptCells, Held, GivesText, ReturnFits, GivesEnd, Gives, FilledBy, WaitsArgument, WaitsBody, WaitsBy, Level}
use Rattle.soundness.proofs.Keeping.{Keeps, keeps_cells, cells_higher, keeps_set_behind}
use Rattle.soundness.proofs.Turning.{Stands, Right}
use Rattle.soundness.proofs.Steps.{child_held, expression_level, value_right, either, some_right, only_right}

-- ── An import ──

put_by : (r : Rule) (type : ℕ → Option Ty) (cs : List Value) (o : Open) (m : Meaning) (c : ℕ) (l v : ℤ) (f : Result (Unit {0}) BookFault) → type o.node ≡ Some ty.Int → o.base ≤ length cs → Right kind.Call r type (put_turn m o.node c l v f) cs o
put_by r type cs o m c l v (Err e) t le = tt
put_by r type cs o m c l v (Ok u) t le = (rw t refl, le)

get_by : (r : Rule) (type : ℕ → Option Ty) (cs : List Value) (o : Open) (m : Meaning) (c : ℕ) (l : ℤ) (f : Result (Option ℤ) BookFault) → type o.node ≡ Some ty.Int → o.base ≤ length cs → Right kind.Call r type (get_turn m o.node c l f) cs o
get_by r type cs o m c l (Err e) t le = tt
get_by r type cs o m c l (Ok x) t le = (rw t refl, le)

held_by : (r : Rule) (type : ℕ → Option Ty) (cs : List Value) (o : Open) (m : Meaning) (c : ℕ) (l : ℤ) (f : Result (Option ℤ) BookFault) → type o.node ≡ Some ty.Int → o.base ≤ length cs → Right kind.Call r type (held_turn m o.node c l f) cs o
held_by r type cs o m c l (Err e) t le = tt
held_by r type cs o m c l (Ok x) t le = (rw t refl, le)

column_by : (r : Rule) (type : ℕ → Option Ty) (cs : List Value) (o : Open) (x : Option ℕ) (f : ℕ → Turn) → ((c : ℕ) → Right kind.Call r type (f c) cs o) → Right kind.Call r type (on_column o.node x f) cs o
column_by r type cs o None f h = tt
column_by r type cs o (Some c) f h = h c

request_by : (r : Rule) (type : ℕ → Option Ty) (cs : List Value) (o : Open) (m : Meaning) (w : Option Request) → type o.node ≡ Some ty.Int → o.base ≤ length cs → Right kind.Call r type (request_turn r m o.node w) cs o
request_by r type cs o m None t le = tt
request_by r type cs o m (Some (request.Put x l v)) t le = column_by r type cs o (column_of r x) _ (λ c. put_by r type cs o m c l v (put_answer m c l) t le)
request_by r type cs o m (Some (request.Get x l)) t le = column_by r type cs o (column_of r x) _ (λ c. get_by r type cs o m c l (get_answer m c l) t le)
request_by r type cs o m (Some (request.Held x l)) t le = column_by r type cs o (column_of r x) _ (λ c. held_by r type cs o m c l (get_answer m c l) t le)

import_right : (r : Rule) (type : ℕ → Option Ty) (cs : List Value) (o : Open) (m : Meaning) (x : Option Import) (row : List Value) → type o.node ≡ Some ty.Int → o.base ≤ length cs → Right kind.Call r type (import_turn r m o.node x row) cs o
import_right r type cs o m None row t le = tt
import_right r type cs o m (Some n) row t le = request_by r type cs o m (request_of n row) t le

-- ── A method's body is next ──

call_needs : (r : Rule) (i : ℕ) → (node r i).kind ≡ kind.Call → needs r i ≡ length (children r i)
call_needs r i e =
    let a : eqb (kind_at r i) 7 ≡ false = rw e refl in
    let b : eqb (kind_at r i) 22 ≡ true = rw e refl in
    rw (a, b, needs) refl

field_address : (r : Rule) (f g d : ℕ) → is_field r d ≡ true → address r f d ≡ address r g d
unfolding address
field_address r f g d h = rw h refl

parameter_address : (r : Rule) (f d : ℕ) → is_field r d ≡ false → address r f d ≡ f + place r.nodes d
unfolding address
parameter_address r f d h = rw h refl

one_cell : (r : Rule) (d : ℕ) → kind_at r d ≡ 6 → cells_of (node r d) ≡ 1
one_cell r d e = rw (e, cells_of) refl

-- The arguments that are there.
abbrev Filled : Rule → List Value → Open → ℕ → Type 0
Filled r cs o k = (d : ℕ) → meant r.nodes o.node ≡ Some d → kind_at r d ≡ 5 → (q : ℕ) → q < k → FilledBy r (slice_get (parameters r d) q) cs (o.base + q)

body_held : (r : Rule) (type : ℕ → Option Ty) (cs : List Value) (o : Open) (d : ℕ) → GoodMethodCall r type o.node d → meant r.nodes o.node ≡ Some d → kind_at r d ≡ 5 → Stands r cs o → length cs ≡ o.base + length (parameters r d) → Filled r cs o (length (parameters r d)) → Held r cs (length cs) o.base (body r.nodes d)
body_held r type cs o d g p k s u fill e h = elim (g.names e h) [
  | inl a ↦ field a
  | inr b ↦ parameter b
]
  where
    field : (is_field r e ≡ true) × (sees r o.node e ≡ true) → KeptCells r cs (length cs) o.base e
    field a = rw (field_address r o.base o.frame e a.0) (cells_higher r cs o.base (length cs) o.frame e (omega arith) (s.room.seen e a.1))

    parameter : (q : ℕ) × (slice_get (parameters r d) q ≡ Some e) × (is_field r e ≡ false) × (place r.nodes e ≡ q) × (kind_at r e ≡ 6) → KeptCells r cs (length cs) o.base e
    parameter b x lt =
        let one = one_cell r e b.4 in
        let none : x ≡ 0 = omega arith in
        let at = parameter_address r o.base e b.2 in
        let same : address r o.base e + x ≡ o.base + b.0 = let off = b.3 in omega arith in
        let low = slice_get_within (parameters r d) b.0 e b.1 in
        let full = rw b.1 at (fill d p k b.0 low) in
        (omega arith, rw same full)

-- ── The next argument, or the call itself ──

argument_level : (r : Rule) (type : ℕ → Option Ty) (l f i j : ℕ) → Argument r type i j → Level r l f j
argument_level r type l f i j a = elim a.is [ inl x ↦ expression_level (class_at r j) r l f j (is_expression _ x.1.is) | inr e ↦ rw (is_text _ e) tt ]

call_goes : (r : Rule) (type : ℕ → Option Ty) (cs : List Value) (m : Meaning) (o : Open) → (node r o.node).kind ≡ kind.Call → GoodCall r type o.node → Stands r cs o → o.came ≤ length (children r o.node) → Filled r cs o o.came → Right kind.Call r type (call_on r o cs m) cs o
call_goes r type cs m o e g s le fill =
    let n = call_needs r o.node e in
    let u = s.used in
    let few = g.few in
    either kind.Call r type cs o (has r o.node o.came) _ _
    (λ h.
    let a = g.arguments o.came h in
    let lt = g.inside o.came h in
    (inl (record { index = o.came; item = record { came = refl; has = h; child = refl }; few = omega arith; inside = omega arith; filled = fill }, refl), child_held r cs o _ a.names s, argument_level r type _ _ _ _ a, s))
    (λ h. some_right kind.Call r type cs o _ _ _ g.meant (whole g.callee (g.all o.came h)))
  where
    whole : ((kind_at r g.declaration ≡ 2) × (type o.node ≡ Some ty.Int)) ⊎ ((kind_at r g.declaration ≡ 5) × GoodMethodCall r type o.node g.declaration) → length (children r o.node) ≤ o.came → Right kind.Call r type (called r o cs m g.declaration) cs o
    whole (inl x) ge =
        let two : eqb (kind_at r g.declaration) 2 ≡ true = rw x.0 refl in
        let u = s.used in
        rw (two, called) (import_right r type cs o m (import_of (name_of r g.declaration)) (drop o.base cs) x.1 (omega arith))
    whole (inr x) ge =
        let two : eqb (kind_at r g.declaration) 2 ≡ false = rw x.0 refl in
        let five : eqb (kind_at r g.declaration) 5 ≡ true = rw x.0 refl in
        let n = call_needs r o.node e in
        let u = s.used in
        let c = x.1.count in
        let all : o.came ≡ length (parameters r g.declaration) = omega arith in
        let came : eqb o.came (length (parameters r g.declaration)) ≡ true = grind (arith, nat_tests) in
        let cells : length cs ≡ o.base + length (parameters r g.declaration) = omega arith in
        let off = x.1.behind in
        let level : length cs ≡ o.base + offset r (body r.nodes g.declaration) = omega arith in
        rw (two, called) (only_right kind.Call r type cs o (eqb (kind_at r g.declaration) 5 && eqb o.came (length (parameters r g.declaration))) (enters 7 (body r.nodes g.declaration)) (and_from (eqb (kind_at r g.declaration) 5) (eqb o.came (length (parameters r g.declaration))) five came) (
          inr (record { came = refl; method = g.declaration; meant = g.meant; is_method = x.0; body = refl; frame = refl }),
          body_held r type cs o g.declaration x.1 g.meant x.0 s cells (λ d p k q lt. fill d p k q (omega arith)),
          rw (is_block _ x.1.is_block) level,
          s,
        ))

pub call_starts : (r : Rule) (type : ℕ → Option Ty) (cs : List Value) (m : Meaning) (o : Open) → (node r o.node).kind ≡ kind.Call → GoodCall r type o.node → Stands r cs o → o.came ≡ first_came r o.node → Right kind.Call r type (started kind.Call r o cs m) cs o
call_starts r type cs m o e g s c =
    let seven : eqb (kind_at r o.node) 7 ≡ false = rw e refl in
    let none : first_came r o.node ≡ 0 = rw (seven, first_came) refl in
    call_goes r type cs m o e g s (omega arith) (λ d p k q lt. absurd (omega arith))

-- ── An argument is there ──

nth_set : (cs : List Value) (a : ℕ) (v : Value) → a < length cs → slice_get (set cs a v) a ≡ Some v
nth_set [] a v lt = absurd (omega arith)
nth_set (c ∷ cs) zero v lt = refl
nth_set (c ∷ cs) (suc a) v lt = nth_set cs a v (omega arith)

-- a call has no declarations of its own, so its own cells may change
stands_behind : (r : Rule) (cs : List Value) (o : Open) (a : ℕ) (v : Value) → (node r o.node).kind ≡ kind.Call → o.base ≤ a → Stands r cs o → Stands r (set cs a v) o
stands_behind r cs o a v e le s =
    let n = length-set cs a v in
    let u = s.used in
    record {
      room = record {
        seen = λ d h. keeps_cells r cs (set cs a v) o.base o.frame d (keeps_set_behind o.base cs a v le) (s.room.seen d h);
        own = λ d h. absurd (let b : ◌≡◌ {A = ℕ} 22 7 = rw e at h.block in omega arith);
      };
      used = omega arith;
    }

filled_keeps : (r : Rule) (x : Option ℕ) (cs ds : List Value) (l a : ℕ) → a < l → Keeps cs ds l → FilledBy r x cs a → FilledBy r x ds a
filled_keeps r None cs ds l a lt h f = f
filled_keeps r (Some n) cs ds l a lt h f = h a _ lt f

filled_now : (r : Rule) (x : Option ℕ) (cs : List Value) (a : ℕ) (v : Value) → parameter_fits r x v ≡ true → a < length cs → FilledBy r x (set cs a v) a
filled_now r None cs a v h lt = absurd (true≢false (sym h))
filled_now r (Some n) cs a v h lt = record { held = v; there = nth_set cs a v lt; typed = h }

filled_more : (r : Rule) (cs : List Value) (o : Open) (k : ℕ) (v : Value) → o.base + k < length cs → Filled r cs o k → ((d : ℕ) → meant r.nodes o.node ≡ Some d → kind_at r d ≡ 5 → parameter_fits r (slice_get (parameters r d) k) v ≡ true) → Filled r (set cs (o.base + k) v) o (k + 1)
filled_more r cs o k v lt fill now d p e q less = elim (cases_lt q k) [
  | inl x ↦ filled_keeps r (slice_get (parameters r d) q) cs (set cs (o.base + k) v) (o.base + k) (o.base + q) (omega arith) (keeps_set_behind (o.base + k) cs (o.base + k) v (omega arith)) (fill d p e q x)
  | inr x ↦ let same : q ≡ k = omega arith in rw same (filled_now r (slice_get (parameters r d) k) cs (o.base + k) v (now d p e) lt)
]

-- the value is_of, if the callee is a method
fills : (r : Rule) (type : ℕ → Option Ty) (cs : List Value) (m : Meaning) (o : Open) (k : ℕ) (v : Value) → (node r o.node).kind ≡ kind.Call → (g : GoodCall r type o.node) → Stands r cs o → o.came ≡ k + 1 → k < needs r o.node → Filled r cs o k → suits r g.declaration k v ≡ true → ((d : ℕ) → meant r.nodes o.node ≡ Some d → kind_at r d ≡ 5 → parameter_fits r (slice_get (parameters r d) k) v ≡ true) → Right kind.Call r type (argument_turn r o cs m v) cs o
fills r type cs m o k v e g s c lt fill ok now =
    let n = call_needs r o.node e in
    let u = s.used in
    let back : o.came - 1 ≡ k = omega arith in
    let more : Filled r (set cs (o.base + k) v) o o.came = λ d p x q less. filled_more r cs o k v (omega arith) fill now d p x q (omega arith) in
    let finished : Right kind.Call r type (only_if (suits r g.declaration k v) (sets (o.base + k) v (call_on r o (set cs (o.base + k) v) m))) cs o =
    only_right kind.Call r type cs o (suits r g.declaration k v) _ ok
    (inr (omega arith), call_goes r type (set cs (o.base + k) v) m o e g (stands_behind r cs o (o.base + k) v e (omega arith) s) (omega arith) more)
    in
    let whole : Right kind.Call r type (only_if (suits r g.declaration (o.came - 1) v) (sets (o.base + (o.came - 1)) v (call_on r o (set cs (o.base + (o.came - 1)) v) m))) cs o = stepped back finished in
    some_right kind.Call r type cs o _ _ _ g.meant whole
  where
    stepped : {j : ℕ} → j ≡ k → Right kind.Call r type (only_if (suits r g.declaration k v) (sets (o.base + k) v (call_on r o (set cs (o.base + k) v) m))) cs o → Right kind.Call r type (only_if (suits r g.declaration j v) (sets (o.base + j) v (call_on r o (set cs (o.base + j) v) m))) cs o
    stepped {j} h x = rw h x

text_by : (r : Rule) (type : ℕ → Option Ty) (cs : List Value) (o : Open) (e : Completion) (f : Value → Turn) → GivesText e → ((v : Value) → Right kind.Call r type (f v) cs o) → Right kind.Call r type (on_value e f) cs o
text_by r type cs o Ended f g z = g
text_by r type cs o (Valued v) f g z = z v
text_by r type cs o (Located a v) f g z = absurd g
text_by r type cs o Broke f g z = g
text_by r type cs o Continued f g z = g
text_by r type cs o (Returned x) f g z = g

any_argument : (r : Rule) (type : ℕ → Option Ty) (cs : List Value) (o : Open) (l j : ℕ) (e : Completion) (f : Value → Turn) → Argument r type o.node j → Gives r type cs l j e → ((v : Value) → Right kind.Call r type (f v) cs o) → Right kind.Call r type (on_value e f) cs o
any_argument r type cs o l j e f a y z = elim a.is [
  | inl x ↦ value_right kind.Call r type l j x.0 cs o e f x.1 y (λ v h. z v)
  | inr c ↦ text_by r type cs o e f (rw (is_text _ c) at y) z
]

nth_within : {X : Type 0} (xs : List X) (q : ℕ) → q < length xs → (x : X) × (slice_get xs q ≡ Some x)
nth_within [] q lt = absurd (omega arith)
nth_within (x ∷ xs) zero lt = (x, refl)
nth_within (x ∷ xs) (suc q) lt = nth_within xs q (omega arith)

same_declaration : (x : Option ℕ) (d e : ℕ) → x ≡ Some d → x ≡ Some e → d ≡ e
same_declaration x d e p q = cc

argument_right : (r : Rule) (type : ℕ → Option Ty) (cs : List Value) (m : Meaning) (o : Open) (l j : ℕ) (e : Completion) → (node r o.node).kind ≡ kind.Call → (g : GoodCall r type o.node) → Stands r cs o → (w : WaitsArgument r cs o j) → Gives r type cs l j e → ((kind_at r g.declaration ≡ 2) × (type o.node ≡ Some ty.Int)) ⊎ ((kind_at r g.declaration ≡ 5) × GoodMethodCall r type o.node g.declaration) → Right kind.Call r type (on_value e (argument_turn r o cs m)) cs o
argument_right r type cs m o l j e k g s w y (inl x) =
    any_argument r type cs o l _ e _ (g.arguments w.index w.item.has) (rw w.item.child at y) (λ v.
    fills r type cs m o w.index v k g s w.item.came w.inside w.filled
    (let two : eqb (kind_at r g.declaration) 2 ≡ true = rw x.0 refl in rw (two, suits) refl)
    (λ d p q. absurd (let same = same_declaration _ _ _ p g.meant in let clash : ◌≡◌ {A = ℕ} 2 5 = sym x.0 ∙ (rw same at q) in omega arith)))
argument_right r type cs m o l j e k g s w y (inr x) =
    let n = call_needs r o.node k in
    let lt = w.inside in
    let c = x.1.count in
    let p = nth_within (parameters r g.declaration) w.index (omega arith) in
    let a = x.1.arguments w.index p.0 p.1 in
    value_right kind.Call r type l _ a.0 cs o e _ a.2 (rw w.item.child at y) (λ v h.
    let ok : parameter_fits r (slice_get (parameters r g.declaration) w.index) v ≡ true = rw p.1 (rw a.1 h) in
    fills r type cs m o w.index v k g s w.item.came w.inside w.filled
    (let two : eqb (kind_at r g.declaration) 2 ≡ false = rw x.0 refl in rw (two, suits) ok)
    (λ d q z. let same = same_declaration _ _ _ q g.meant in rw same ok))

-- ── What the body gave ──

fall_by : (r : Rule) (type : ℕ → Option Ty) (cs : List Value) (o : Open) (t : Option Ty) (b : ℕ) → type o.node ≡ t → o.base ≤ length cs → Right kind.Call r type (fall_turn t b) cs o
fall_by r type cs o None b e le = (rw e tt, le)
fall_by r type cs o (Some t) b e le = tt

return_by : (r : Rule) (type : ℕ → Option Ty) (cs : List Value) (o : Open) (t : Option Ty) (x : Option Value) → type o.node ≡ t → ReturnFits t x → o.base ≤ length cs → Right kind.Call r type (return_turn t x) cs o
return_by r type cs o None None e h le = (rw e tt, le)
return_by r type cs o None (Some v) e h le = h
return_by r type cs o (Some t) None e h le = h
return_by r type cs o (Some t) (Some v) e h le = only_right kind.Call r type cs o (is_of (Some t) v) _ h (rw e h, le)

result_by : (r : Rule) (type : ℕ → Option Ty) (cs : List Value) (o : Open) (d : ℕ) (loop : Bool) (e : Completion) → type o.node ≡ tagged (node r d).tag → loop ≡ false → GivesEnd loop (tagged (node r d).tag) e → o.base ≤ length cs → Right kind.Call r type (result_turn r d e) cs o
result_by r type cs o d loop Ended t f g le = fall_by r type cs o (tagged (node r d).tag) (body r.nodes d) t le
result_by r type cs o d loop (Valued v) t f g le = g
result_by r type cs o d loop (Located a v) t f g le = g
result_by r type cs o d loop Broke t f g le = absurd (true≢false (sym g ∙ f))
result_by r type cs o d loop Continued t f g le = absurd (true≢false (sym g ∙ f))
result_by r type cs o d loop (Returned x) t f g le = return_by r type cs o (tagged (node r d).tag) x t g le

body_right : (r : Rule) (type : ℕ → Option Ty) (cs : List Value) (o : Open) (l j f : ℕ) (e : Completion) → (g : GoodCall r type o.node) → Stands r cs o → (w : WaitsBody r o j f) → Gives r type cs l j e → ((kind_at r g.declaration ≡ 2) × (type o.node ≡ Some ty.Int)) ⊎ ((kind_at r g.declaration ≡ 5) × GoodMethodCall r type o.node g.declaration) → Right kind.Call r type (result_turn r g.declaration e) cs o
body_right r type cs o l j f e g s w y (inl x) = absurd (let same = same_declaration _ _ _ w.meant g.meant in let clash : ◌≡◌ {A = ℕ} 2 5 = sym x.0 ∙ (rw same at w.is_method) in omega arith)
body_right r type cs o l j f e g s w y (inr x) =
    let u = s.used in
    let same = same_declaration _ _ _ w.meant g.meant in
    let at : j ≡ body r.nodes g.declaration = rw same at w.body in
    let y' : Gives r type cs l (body r.nodes g.declaration) e = rw at at y in
    let z : GivesEnd (looped r (body r.nodes g.declaration)) (result r (body r.nodes g.declaration)) e = rw (is_block _ x.1.is_block) at y' in
    result_by r type cs o g.declaration (looped r (body r.nodes g.declaration)) e x.1.typed x.1.unlooped (rw x.1.gives at z) (omega arith)

pub call_goes_on : (r : Rule) (type : ℕ → Option Ty) (cs : List Value) (m : Meaning) (o : Open) (l j f : ℕ) (e : Completion) → (node r o.node).kind ≡ kind.Call → GoodCall r type o.node → Stands r cs o → WaitsBy kind.Call r type cs o j f → Gives r type cs l j e → Right kind.Call r type (resumed kind.Call r o cs m e) cs o
call_goes_on r type cs m o l j f e k g s (inl w) y =
    let c = w.0.item.came in
    let few = w.0.few in
    let seven : eqb o.came 7 ≡ false = grind (arith, nat_tests) in
    rw (seven, call_turn) (argument_right r type cs m o l j e k g s w.0 y g.callee)
call_goes_on r type cs m o l j f e k g s (inr w) y =
    let seven : eqb o.came 7 ≡ true = rw w.came refl in
    rw (seven, call_turn) (some_right kind.Call r type cs o _ _ _ g.meant (body_right r type cs o l j f e g s w y g.callee))
