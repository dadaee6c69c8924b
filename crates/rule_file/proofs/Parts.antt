-- The three bodies of a file whose contents are true.
use Rattle.std.proofs.Common.{◌≡◌, ℕ, ◌+◌, ◌/◌, ◌%◌, ◌≤◌, true, List, ◌++◌, length, take, drop, sym, refl, ap, ◌∙◌, arith, length-drop, take-append-drop, eqb-true, le-leb, leb-true}
use Rattle.std.proofs.lemmas.List.{take_all, drop-drop, length-take-le}
use Rattle.std.proofs.lemmas.Bool.{and_parts}
use Rattle.nodes.specs.Bytes.{window}
use Rattle.layout.specs.Head.{part, contents, body_at, node_body, name_body, string_body, contiguous, counted}
use Rattle.nodes.specs.Kinds.{between}
use Rattle.nodes.specs.Nodes.{count}

-- the contents, as equations
pub record Laid (file : List ℕ) : Type 0 where
  pub nodes_at : (part file 4).offset ≡ 28
  pub names_at : (part file 12).offset ≡ 28 + (part file 4).length
  pub strings_at : (part file 20).offset ≡ (part file 12).offset + (part file 12).length
  pub ends_at : length file ≡ (part file 20).offset + (part file 20).length

pub laid : (file : List ℕ) → contiguous (length file) (contents file) ≡ true → Laid file
laid file h =
    let a = and_parts _ _ h in
    let b = and_parts _ _ a.1 in
    let c = and_parts _ _ b.1 in
    let o = eqb-true _ _ a.0 in
    record {
      nodes_at = o;
      names_at = eqb-true _ _ b.0 ∙ ap (λ k. k + (part file 4).length) o;
      strings_at = eqb-true _ _ c.0;
      ends_at = eqb-true _ _ c.1;
    }

-- a window and what follows it
split_window : (xs : List ℕ) (at size : ℕ) → window xs at size ++ drop (at + size) xs ≡ drop at xs
split_window xs at size =
    ap (λ ys. take size (drop at xs) ++ ys) (sym (drop-drop size at xs)) ∙ take-append-drop size (drop at xs)

joined : (xs : List ℕ) (a la b lb c lc : ℕ) → a ≡ 28 → b ≡ 28 + la → c ≡ b + lb → length xs ≡ c + lc → take 28 xs ++ (window xs a la ++ (window xs b lb ++ window xs c lc)) ≡ xs
joined xs a la b lb c lc p q r s =
    let last : window xs c lc ≡ drop c xs = take_all lc (drop c xs) (omega (arith, length-drop c xs)) in
    let mid : window xs b lb ++ drop c xs ≡ drop b xs = rw r (split_window xs b lb) in
    let front : window xs a la ++ drop b xs ≡ drop a xs = rw (q, p) (split_window xs 28 la) in
    ap (λ ys. take 28 xs ++ (window xs a la ++ (window xs b lb ++ ys))) last
    ∙ ap (λ ys. take 28 xs ++ (window xs a la ++ ys)) mid
    ∙ ap (λ ys. take 28 xs ++ ys) front
    ∙ ap (λ k. take 28 xs ++ drop k xs) p
    ∙ take-append-drop 28 xs

pub bodies_whole : (file : List ℕ) → Laid file → take 28 file ++ (node_body file ++ (name_body file ++ string_body file)) ≡ file
unfolding body_at
bodies_whole file w =
    joined file (part file 4).offset (part file 4).length (part file 12).offset (part file 12).length (part file 20).offset (part file 20).length w.nodes_at w.names_at w.strings_at w.ends_at

window_long : (xs : List ℕ) (at size : ℕ) → at + size ≤ length xs → length (window xs at size) ≡ size
window_long xs at size h = length-take-le size (drop at xs) (omega (arith, length-drop at xs))

reaches : (o n m so sl size : ℕ) → o ≡ 28 → so ≡ 28 + n + m → size ≡ so + sl → o + n ≤ size
reaches o n m so sl size p q r = omega arith

pub nodes_long : (file : List ℕ) → Laid file → length (node_body file) ≡ (part file 4).length
unfolding body_at
nodes_long file w =
    window_long file (part file 4).offset (part file 4).length
    (reaches (part file 4).offset (part file 4).length (part file 12).length (part file 20).offset (part file 20).length (length file) w.nodes_at (w.strings_at ∙ ap (λ k. k + (part file 12).length) w.names_at) w.ends_at)

sixteenths : (n : ℕ) → 1 ≤ n → n ≤ 16384 → n % 16 ≡ 0 → (1 ≤ n / 16) × (n / 16 ≤ 1024)
sixteenths n a b c = (omega arith, omega arith)

pub few : (file : List ℕ) → Laid file → counted (contents file) ≡ true → (1 ≤ count (node_body file)) × (count (node_body file) ≤ 1024)
few file w h =
    let a = and_parts _ _ h in
    let b = and_parts _ _ a.1 in
    rw (nodes_long file w) (sixteenths (part file 4).length (leb-true 1 _ a.0) (leb-true _ 16384 b.0) (eqb-true _ 0 b.1))

pub few_between : (n : ℕ) → 1 ≤ n → n ≤ 1024 → between 1 1024 n ≡ true
few_between n a b = rw (le-leb 1 n a, le-leb n 1024 b) refl
