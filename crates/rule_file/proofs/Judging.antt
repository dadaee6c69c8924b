-- The first of some causes: no cause applies where there is none, and causes in parts.
use Rattle.std.proofs.Common.{◌≡◌, ℕ, ◌<◌, false, List, [], ◌∷◌, ◌++◌, Some, None, Option, refl, ap, ◌∙◌, arith}
use Rattle.finding.specs.Search.{first_of}
use Rattle.finding.proofs.Lowest.{none_lowest}
use Rattle.finding.specs.declared.Finding.{Finding}
use Rattle.layout.specs.Faults.{fault, places, place_of, or_later, first_among}
use Rattle.layout.specs.declared.fault.FileFault.{FileFault}

later_joined : (c : FileFault) (p : Option ℕ) (a b : Option (Finding FileFault)) → or_later c p (first_of a b) ≡ first_of (or_later c p a) b
later_joined c None a b = refl
later_joined c (Some p) a b = refl

pub first_joined : (cs ds : List FileFault) (file : List ℕ) → first_among (cs ++ ds) file ≡ first_of (first_among cs file) (first_among ds file)
first_joined [] ds file = refl
first_joined (c ∷ cs) ds file =
    ap (or_later c (place_of c file)) (first_joined cs ds file)
    ∙ later_joined c (place_of c file) (first_among cs file) (first_among ds file)

-- None of the causes applies anywhere.
abbrev pub Clear : List FileFault → List ℕ → Type 0
Clear [] file = Unit {0}
Clear (c ∷ cs) file = ((p : ℕ) → p < places c file → fault c file p ≡ false) × Clear cs file

later_none : (c : FileFault) (p : Option ℕ) (a : Option (Finding FileFault)) → or_later c p a ≡ None → (p ≡ None) × (a ≡ None)
later_none c None a h = (refl, h)
later_none c (Some p) a h = let z : ◌≡◌ {A = ℕ} 0 1 = cc in absurd (omega arith)

pub first_clear : (cs : List FileFault) (file : List ℕ) → first_among cs file ≡ None → Clear cs file
first_clear [] file h = tt
first_clear (c ∷ cs) file h =
    let p = later_none c (place_of c file) (first_among cs file) h in
    (none_lowest (fault c file) (places c file) p.0, first_clear cs file p.1)
