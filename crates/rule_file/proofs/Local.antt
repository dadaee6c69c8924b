-- One name, one string, one node: what the tests that fail nowhere say of it.
use Rattle.std.proofs.Common.{◌≡◌, ℕ, zero, suc, ◌+◌, ◌<◌, ◌≤◌, Bool, true, false, cond, not, ◌||◌, eqb, ltb, List, [], ◌∷◌, map, length, get_or, take, drop, Some, None, Option, sym, refl, ap, ◌∙◌, arith, length-drop, ltb-false, eqb-true}
use borrow.Author.Tests.{not-false, eqb-false}
use Rattle.std.proofs.lemmas.Slice.Eq.{bytes_eq-Decides}
use Rattle.std.proofs.lemmas.List.{get_or-take, get_or-drop, length-take-le, length-take}
use Rattle.std.specs.Str.{bytes_eq}
use Rattle.std.proofs.lemmas.Bool.{and_parts, or_parts}
use Rattle.nodes.specs.Bytes.{byte, window, le16, le64}
use Rattle.nodes.specs.Kinds.{number, numbered, kinds, kind_of, between}
use Rattle.layout.specs.Items.{items, split, text, cut_off}
use Rattle.layout.specs.Texts.{among, size_of, misfit}
use Rattle.nodes.specs.Nodes.{with_kind, decoded}
use Rattle.nodes.specs.Fields.{fields, value_fits, fits, kind_fits, bad_fields}
use Rattle.nodes.specs.Tree.{children}
use Rattle.nodes.specs.Shapes.{shape, fill}
use Rattle.layout.specs.Faults.{end_of, kind_byte, slots, children_fit}
use Rattle.nodes.specs.declared.kind.Kind.{Kind}
use Rattle.nodes.specs.declared.node.Node.{Node}

-- an item is no longer than its length byte says
items_short : (n : ℕ) (bs : List ℕ) (k : ℕ) → k < length (items n bs) → length (get_or (items n bs) k []) ≤ 1 + get_or (get_or (items n bs) k []) 0 0
items_short zero bs k l = absurd (omega arith)
items_short (suc n) [] k l = absurd (omega arith)
items_short (suc n) (b ∷ bs) zero l = let h = length-take b bs in omega arith
items_short (suc n) (b ∷ bs) (suc k) l = items_short n (drop b bs) k (omega arith)

pub item_short : (body : List ℕ) (k : ℕ) → k < length (split body) → length (get_or (split body) k []) ≤ 1 + size_of (get_or (split body) k [])
unfolding split
item_short body k l = items_short 256 body k l

-- what an item that is no misfit is
pub record Fit (least most k : ℕ) (item : List ℕ) : Type 0 where
  pub whole : size_of item ≡ length (text item)
  pub size : between least most (length (text item)) ≡ true
  pub early : k ≡ 255 → ⊥

pub fit : (least most k : ℕ) (item : List ℕ) → length item ≤ 1 + size_of item → misfit least most k item ≡ false → Fit least most k item
fit least most k item short h =
    let a = or_parts (cut_off item) (not (between least most (size_of item)) || eqb k 255) h in
    let b = or_parts (not (between least most (size_of item))) (eqb k 255) a.1 in
    let c = ltb-false (length item) (1 + size_of item) a.0 in
    let w : size_of item ≡ length (text item) = omega (arith, length-drop 1 item) in
    record { whole = w; size = ap (between least most) (sym w) ∙ not-false _ b.0; early = eqb-false k 255 b.1 }

-- no member is the same
pub apart : (bs : List ℕ) (xss : List (List ℕ)) (j : ℕ) → j < length xss → among bs xss ≡ false → bytes_eq bs (get_or xss j []) ≡ false
apart bs [] j l h = absurd (omega arith)
apart bs (xs ∷ xss) zero l h = (or_parts _ _ h).0
apart bs (xs ∷ xss) (suc j) l h = apart bs xss j (omega arith) (or_parts _ _ h).1

pub unlike : (bs : List ℕ) (xss : List (List ℕ)) (k j : ℕ) → j < k → k ≤ length xss → among bs (take k xss) ≡ false → get_or xss j [] ≡ bs → ⊥
unlike bs xss k j l m h q =
    let s = apart bs (take k xss) j (omega (arith, length-take-le k xss m)) h in
    let t = (bytes_eq-Decides bs (get_or (take k xss) j [])).1 (sym q ∙ sym (get_or-take k xss j [] l)) in
    let z : ◌≡◌ {A = Bool} true false = sym t ∙ s in
    let y : ◌≡◌ {A = ℕ} 0 1 = cc in omega arith

-- the kind that has a number
numbered_is : (ks : List Kind) (n : ℕ) (k : Kind) → numbered ks n ≡ Some k → n ≡ number k
numbered_is [] n k h = let z : ◌≡◌ {A = ℕ} 0 1 = cc in absurd (omega arith)
numbered_is (x ∷ ks) n k h = cases (eqb n (number x)) refl (numbered_is ks n k)
  where
    cases : (b : Bool) → eqb n (number x) ≡ b → (numbered ks n ≡ Some k → n ≡ number k) → n ≡ number k
    cases true e r =
        let q : Some x ≡ Some k = sym (ap (λ b. cond b (Some x) (numbered ks n)) e) ∙ h in
        let same : x ≡ k = cc in
        eqb-true n (number x) e ∙ ap number same
    cases false e r = r (sym (ap (λ b. cond b (Some x) (numbered ks n)) e) ∙ h)

pub kind_number : (n : ℕ) (k : Kind) → kind_of n ≡ Some k → n ≡ number k
kind_number n k h = numbered_is kinds n k h

pub byte_window : (bs : List ℕ) (at size k : ℕ) → k < size → byte (window bs at size) k ≡ byte bs (at + k)
byte_window bs at size k l = get_or-take size (drop at bs) k 0 l ∙ get_or-drop at bs k 0

-- what a node's record shows, where its fields fit
pub record Shown (names strings : ℕ) (bs : List ℕ) (n : Node) : Type 0 where
  pub kind : kind_of (byte bs 0) ≡ Some n.kind
  pub node : decoded bs ≡ Some n
  pub size : n.size ≡ le16 bs 4
  pub tag : between (fields n.kind).first (fields n.kind).last n.tag ≡ true
  pub name : cond (fields n.kind).named (ltb n.name names) (eqb n.name 0) ≡ true
  pub value : value_fits (fields n.kind).value n.tag strings n.value ≡ true

fields_shown : (names strings : ℕ) (bs : List ℕ) (k : Kind) → kind_of (byte bs 0) ≡ Some k → fits (fields k) names strings bs ≡ true → (n : Node) × Shown names strings bs n
fields_shown names strings bs k e h =
    let a = and_parts (between (fields k).first (fields k).last (byte bs 1)) _ h in
    let b = and_parts (cond (fields k).named (ltb (byte bs 2) names) (eqb (byte bs 2) 0)) _ a.1 in
    let c = and_parts (eqb (byte bs 3) 0) _ b.1 in
    let d = and_parts (eqb (byte bs 6) 0) _ c.1 in
    let f = and_parts (eqb (byte bs 7) 0) _ d.1 in (
      record { kind = k; tag = byte bs 1; name = byte bs 2; size = le16 bs 4; value = le64 bs 8 },
      record { kind = e; node = ap (with_kind bs) e; size = refl; tag = a.0; name = b.0; value = f.1 },
    )

shown_by : (names strings : ℕ) (bs : List ℕ) (o : Option Kind) → kind_of (byte bs 0) ≡ o → kind_fits o names strings bs ≡ true → (n : Node) × Shown names strings bs n
shown_by names strings bs None e h = let z : ◌≡◌ {A = ℕ} 0 1 = cc in absurd (omega arith)
shown_by names strings bs (Some k) e h = fields_shown names strings bs k e h

pub record_shown : (names strings : ℕ) (bs : List ℕ) → bad_fields names strings bs ≡ false → (n : Node) × Shown names strings bs n
record_shown names strings bs h = shown_by names strings bs (kind_of (byte bs 0)) refl (not-false _ h)

-- the children of a node whose children are not at fault
pub children_fill : (body : List ℕ) (i : ℕ) (k : Kind) → kind_of (kind_byte body i) ≡ Some k → children_fit body i ≡ true → fill (Some (shape k)) (map (kind_byte body) (children (end_of body) i)) ≡ true
unfolding children_fit
children_fill body i k e h =
    sym (ap (λ o. fill (slots o) (map (kind_byte body) (children (end_of body) i))) e) ∙ h
