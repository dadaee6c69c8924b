-- What a search finds in a pile in order, and that a slip filled in anew or put in keeps the order.
use Rattle.std.proofs.Common.{◌≡◌, ℕ, suc, ◌+◌, ◌-◌, ◌<◌, ◌≤◌, true, false, List, [], ◌∷◌, length, set, ℤ, Some, None, Result, Ok, Err, IfOk, IfErr, inl, inr, refl, sym, ap, subst, arith}
use Rattle.std.specs.List.{insert}
use Rattle.std.specs.List.Sorted.{IsSearchInRange, IsBinarySearchResult, IsNonDecreasingBy}
use Rattle.std.specs.Ordering.{nat_cmp, ordering_index}
use Rattle.std.proofs.lemmas.Cmp.{ranked}
use Rattle.std.proofs.lemmas.List.Sorted.{IsNonDecreasingBy-from_default}
use Rattle.std.proofs.lemmas.List.Edits.{length-insert, get_or-insert_below, get_or-insert_at, get_or-insert_above}
use Rattle.std.proofs.lemmas.Bool.{cases_eq, cases_lt}
use Rattle.std.proofs.lemmas.Bool.Decides.{nat_tests}
use Rattle.std.proofs.lemmas.Grind.{common_steps}
use Rattle.book.specs.declared.spot.Spot.{Spot}
use Rattle.book.specs.Spots.{IsIn}
use Rattle.book_makes.specs.Piles.{of, single, blank, slip_at, slip_of, Found, AreIn, rank, rank_of, IsInOrder, IsGap}
use Rattle.book_makes.specs.declared.slip.Slip.{Slip}
use Rattle.book_makes.proofs.Heaps.{holds_none}

-- A slip is of a spot exactly if it has its rank.
same_rank : (x : Slip) (s : Spot) → x.column < 8 → s.column < 8 → rank_of x ≡ rank s.column s.lot → of x s.column s.lot ≡ true
same_rank x s h k e =
    let column : x.column ≡ s.column = omega (arith, h, k, e) in
    let lot : x.lot ≡ s.lot = omega (arith, h, k, e) in
    grind (arith, nat_tests)

lower_rank : (x : Slip) (s : Spot) → rank_of x < rank s.column s.lot → of x s.column s.lot ≡ false
lower_rank x s h = grind (arith, nat_tests)

higher_rank : (x : Slip) (s : Spot) → rank s.column s.lot < rank_of x → of x s.column s.lot ≡ false
higher_rank x s h = grind (arith, nat_tests)

module _ (n : ℕ) (ss : List Slip) (inside : AreIn n ss) (ordered : IsInOrder ss) (s : Spot) (is_in : IsIn n s) where
  -- The comparisons with a rank rise along the pile, as a search by halves asks.
  comparisons_rise : IsNonDecreasingBy (λ x. ordering_index (nat_cmp (rank_of x) (rank s.column s.lot))) ss
  comparisons_rise = IsNonDecreasingBy-from_default (λ x. ordering_index (nat_cmp (rank_of x) (rank s.column s.lot))) ss blank (λ i j le in_range.
      let ranks_rise : rank_of (slip_at ss i) ≤ rank_of (slip_at ss j) = grind (arith, ordered i j, λ (same : i ≡ j). ap (λ k. rank_of (slip_at ss k)) same) in
      grind (arith, nat_tests))

  found_at : (i : ℕ) → i < length ss → rank_of (slip_at ss i) ≡ rank s.column s.lot → Found (Some i) ss s
  found_at i h e = (h, same_rank (slip_at ss i) s (inside i h).0 is_in.0 e, λ k l. lower_rank (slip_at ss k) s (omega (arith, ordered k i l h, e)))

  pub searched : (r : Result ℕ ℕ) → IsSearchInRange r (length ss) → IsBinarySearchResult (λ x. nat_cmp (rank_of x) (rank s.column s.lot)) ss r → record { found : IfOk r (λ i. Found (Some i) ss s); absent : IfErr r (IsGap ss s) }
  searched (Ok i) in_range equal = record { found = found_at i in_range (ranked _ (rank s.column s.lot) _ (sym (equal blank))); absent = tt }
  searched (Err i) in_range parted = record {
    found = tt;
    absent = record {
      in_range = in_range;
      lower = λ k l. ranked _ (rank s.column s.lot) _ (sym ((parted comparisons_rise).0 k blank (omega arith) l));
      higher = λ k l h. ranked _ (rank s.column s.lot) _ (sym ((parted comparisons_rise).1 k blank l h));
    };
  }

  -- A slip filled in anew keeps its rank.
  pub inside_set : (v : ℤ) (i : ℕ) → Found (Some i) ss s → AreIn n (set ss i (slip_of s v))
  inside_set v i f k h = grind (arith, common_steps, inside k, is_in.0, is_in.1)

  pub ordered_set : (v : ℤ) (i : ℕ) → Found (Some i) ss s → IsInOrder (set ss i (slip_of s v))
  ordered_set v i f j k l h =
      let same : rank_of (slip_at ss i) ≡ rank s.column s.lot = let e = f.1 in grind (arith, nat_tests) in
      grind (arith, common_steps, ordered j k, ordered j i, ordered i k, f.0, same)

-- Where there is a gap, no slip is of the spot.
pub none_in_gap : (ss : List Slip) (s : Spot) (i : ℕ) → IsGap ss s i → Found None ss s
none_in_gap ss s i gap k h = elim (cases_lt k i) [
  | inl l ↦ lower_rank (slip_at ss k) s (gap.lower k l)
  | inr l ↦ higher_rank (slip_at ss k) s (gap.higher k l h)
]

-- A slip put in a gap: each slip is an old one below the gap, the new one at it, or an old one moved up by one.
module _ (ss : List Slip) (s : Spot) (v : ℤ) (i : ℕ) (gap : IsGap ss s i) where
  below : (k : ℕ) → k < i → slip_at (insert ss i (slip_of s v)) k ≡ slip_at ss k
  below k l = get_or-insert_below ss i (slip_of s v) blank k l gap.in_range

  here : (k : ℕ) → k ≡ i → slip_at (insert ss i (slip_of s v)) k ≡ slip_of s v
  here k e = rw e (get_or-insert_at ss i (slip_of s v) blank gap.in_range)

  above : (k : ℕ) → i < k → slip_at (insert ss i (slip_of s v)) k ≡ slip_at ss (k - 1)
  above k l = subst (λ q. slip_at (insert ss i (slip_of s v)) q ≡ slip_at ss (k - 1)) {x = k - 1 + 1} (omega arith) (get_or-insert_above ss i (slip_of s v) blank (k - 1) (omega arith) gap.in_range)

  pub inside_insert : (n : ℕ) → AreIn n ss → IsIn n s → AreIn n (insert ss i (slip_of s v))
  inside_insert n inside is_in k h =
      let longer = length-insert ss i (slip_of s v) gap.in_range in
      elim (cases_lt k i) [
        | inl l ↦ rw (below k l) (inside k (omega (arith, l, gap.in_range)))
        | inr l ↦ elim (cases_eq k i) [
          | inl e ↦ rw (here k e) is_in
          | inr d ↦ rw (above k (omega (arith, l, d))) (inside (k - 1) (omega (arith, l, d, h, longer)))
        ]
      ]

  pub ordered_insert : IsInOrder ss → IsInOrder (insert ss i (slip_of s v))
  ordered_insert ordered j k l h =
      let longer = length-insert ss i (slip_of s v) gap.in_range in
      let rank_below : (k : ℕ) → k < i → rank_of (slip_at (insert ss i (slip_of s v)) k) ≡ rank_of (slip_at ss k) = λ k l. ap rank_of (below k l) in
      let rank_here : (k : ℕ) → k ≡ i → rank_of (slip_at (insert ss i (slip_of s v)) k) ≡ rank s.column s.lot = λ k e. ap rank_of (here k e) in
      let rank_above : (k : ℕ) → i < k → rank_of (slip_at (insert ss i (slip_of s v)) k) ≡ rank_of (slip_at ss (k - 1)) = λ k l. ap rank_of (above k l) in
      grind (arith, rank_below j, rank_here j, rank_above j, rank_below k, rank_here k, rank_above k, ordered j k, ordered j (k - 1), ordered (j - 1) (k - 1), gap.lower j, gap.higher (k - 1))

-- In order, no two slips are of one spot.
pub single_in_order : (ss : List Slip) → IsInOrder ss → single ss ≡ true
single_in_order [] h = refl
single_in_order (x ∷ ss) h =
    let others = holds_none ss (record { column = x.column; lot = x.lot }) (λ k l. higher_rank (slip_at ss k) (record { column = x.column; lot = x.lot }) (h 0 (suc k) (omega arith) (omega (arith, l)))) in
    let rest = single_in_order ss (λ i j l k. h (suc i) (suc j) (omega (arith, l)) (omega (arith, k))) in
    rw (others, rest) refl
