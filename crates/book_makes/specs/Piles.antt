-- A pile of slips: which spots have a slip, the value of a spot, that no two slips are of one spot, and in what order they lie.
use Rattle.std.specs.Prelude.{◌≡◌, ℕ, ◌+◌, ◌*◌, ◌<◌, ◌≤◌, Bool, true, false, cond, not, ◌&&◌, ◌||◌, List, [], ◌∷◌, length, ℤ, pos, Some, None, Option, ◌==◌, slice_index_or}
use Rattle.book.specs.declared.spot.Spot.{Spot}
use Rattle.book_makes.specs.declared.slip.Slip.{Slip}

-- A slip is of column c and lot l.
abbrev pub of : Slip → ℕ → ℕ → Bool
of s c l = c == s.column && l == s.lot

-- Some slip is.
abbrev pub holds : List Slip → ℕ → ℕ → Bool
holds [] c l = false
holds (s ∷ ss) c l = of s c l || holds ss c l

-- The value of the first slip that is.
abbrev pub value_in : List Slip → ℕ → ℕ → Option ℤ
value_in [] c l = None
value_in (s ∷ ss) c l = cond (of s c l) (Some s.value) (value_in ss c l)

-- No slip is of the column and lot of another.
abbrev pub single : List Slip → Bool
single [] = true
single (s ∷ ss) = not (holds ss s.column s.lot) && single ss

-- The slip of a spot with a value.
abbrev pub slip_of : Spot → ℤ → Slip
slip_of s v = record { column = s.column; lot = s.lot; value = v }

abbrev pub blank : Slip
blank = record { column = 0; lot = 0; value = pos 0 }

-- The slip at an index; past the end a blank one.
abbrev pub slip_at : List Slip → ℕ → Slip
slip_at ss i = slice_index_or ss i blank

-- The index of the first slip of a spot, or that there is none.
abbrev pub Found : Option ℕ → List Slip → Spot → Type 0
Found (Some i) ss s =
    (i < length ss) × (of (slip_at ss i) s.column s.lot ≡ true) × ((k : ℕ) → k < i → of (slip_at ss k) s.column s.lot ≡ false)
Found None ss s = (k : ℕ) → k < length ss → of (slip_at ss k) s.column s.lot ≡ false

-- Each slip is of one of the columns 0 to 7 and of one of n lots.
abbrev pub AreIn : ℕ → List Slip → Type 0
AreIn n ss = (i : ℕ) → i < length ss → ((slip_at ss i).column < 8) × ((slip_at ss i).lot < n)

-- The rank of column c and lot l, which go by lot and then by column.
abbrev pub rank : ℕ → ℕ → ℕ
rank c l = 8 * l + c

abbrev pub rank_of : Slip → ℕ
rank_of s = rank s.column s.lot

-- The ranks rise along a pile.
abbrev pub IsInOrder : List Slip → Type 0
IsInOrder ss = (i j : ℕ) → i < j → j < length ss → rank_of (slip_at ss i) < rank_of (slip_at ss j)

-- No slip is of the spot, and one that is would go at index i: the ranks before it are lower, those from it on higher.
pub record IsGap (ss : List Slip) (s : Spot) (i : ℕ) : Type 0 where
  pub in_range : i ≤ length ss
  pub lower : (k : ℕ) → k < i → rank_of (slip_at ss k) < rank s.column s.lot
  pub higher : (k : ℕ) → i ≤ k → k < length ss → rank s.column s.lot < rank_of (slip_at ss k)
