-- Worked cases: the verdicts on the files of examples/, computed from their bytes.
--
-- `micron` is the rule that puts micron 195 in lot 3; most of the refused files are `micron` with a few bytes changed.
use Rattle.std.specs.Prelude.{◌≡◌, ℕ, zero, suc, ◌+◌, List, [], ◌∷◌, ◌++◌, length, take, drop, Some, None, codes, Option}
use Rattle.finding.specs.declared.Finding.{Finding}
use Rattle.layout.specs.declared.fault.FileFault.{FileFault}
use Rattle.layout.specs.declared.fault.FileFault.TheVariants.{FileSize, Edition, BodyOrder, NodeCount, NameLength, NameText, NameRepeated, StringText, NodeFields, NodeSize, NodeChildren, NodeDepth}
use Rattle.rule_file.specs.Verdict.{first_fault}

-- a number below 65,536 in four bytes
abbrev pub four : ℕ → ℕ → List ℕ
four low high = low ∷ high ∷ 0 ∷ 0 ∷ []

-- a node whose size and value are below 256
abbrev pub node : ℕ → ℕ → ℕ → ℕ → ℕ → List ℕ
node kind tag name size value = kind ∷ tag ∷ name ∷ 0 ∷ four size 0 ++ (four value 0 ++ four 0 0)

abbrev pub item : List ℕ → List ℕ
item text = length text ∷ text

abbrev pub flat : List (List ℕ) → List ℕ
flat [] = []
flat (xs ∷ xss) = xs ++ flat xss

abbrev pub edition : List ℕ
edition = 1 ∷ 0 ∷ 0 ∷ 0 ∷ []

abbrev pub micron : List ℕ
micron =
    flat
    (edition
    ∷ (four 28 0 ++ four 208 0)
    ∷ (four 236 0 ++ four 11 0)
    ∷ (four 247 0 ++ four 7 0)
    ∷ node 1 0 0 13 0
    ∷ node 2 0 0 1 0
    ∷ node 5 0 1 11 0
    ∷ node 7 0 0 10 0
    ∷ node 3 1 2 1 0
    ∷ node 8 0 0 3 0
    ∷ node 17 0 2 1 0
    ∷ node 19 1 0 1 195
    ∷ node 10 0 0 5 0
    ∷ node 22 0 0 4 0
    ∷ node 25 0 0 1 0
    ∷ node 19 1 0 1 3
    ∷ node 17 0 2 1 0
    ∷ item (codes "put")
    ∷ item (codes "main")
    ∷ item (codes "m")
    ∷ item (codes "micron")
    ∷ [])

abbrev pub empty : List ℕ
empty =
    flat
    (edition
    ∷ (four 28 0 ++ four 48 0)
    ∷ (four 76 0 ++ four 5 0)
    ∷ (four 81 0 ++ four 0 0)
    ∷ node 1 0 0 3 0
    ∷ node 5 0 0 2 0
    ∷ node 7 0 0 1 0
    ∷ item (codes "main")
    ∷ [])

abbrev pub no_node : List ℕ
no_node = flat (edition ∷ (four 28 0 ++ four 0 0) ∷ (four 28 0 ++ four 0 0) ∷ (four 28 0 ++ four 0 0) ∷ [])

-- micron with other bytes from a place on
abbrev pub patched : ℕ → List ℕ → List ℕ
patched at bytes = take at micron ++ (bytes ++ drop (at + length bytes) micron)

-- so many minus signs and a literal
abbrev pub minuses : ℕ → List ℕ
minuses zero = node 19 1 0 1 1
minuses (suc n) = node 20 0 0 (suc (suc n)) 0 ++ minuses n

-- put(- - - .. 1) with 61 minus signs
abbrev pub deep : List ℕ
deep =
    flat
    (edition
    ∷ (four 28 0 ++ four 64 4)
    ∷ (four 92 4 ++ four 9 0)
    ∷ (four 101 4 ++ four 0 0)
    ∷ node 1 0 0 68 0
    ∷ node 2 0 0 1 0
    ∷ node 5 0 1 66 0
    ∷ node 7 0 0 65 0
    ∷ node 10 0 0 64 0
    ∷ node 22 0 0 63 0
    ∷ minuses 61
    ∷ item (codes "put")
    ∷ item (codes "main")
    ∷ [])

abbrev pub refused : FileFault → ℕ → Option (Finding FileFault)
refused cause place = Some (record { place = place; cause = cause })

pub record Cases : Type 0 where
  pub micron_size : length micron ≡ 254
  pub micron_good : first_fault micron ≡ None
  pub empty_good : first_fault empty ≡ None
  pub half_a_head : first_fault (take 20 micron) ≡ refused FileSize 0
  pub other_edition : first_fault (patched 0 (2 ∷ [])) ≡ refused Edition 0
  pub half_written : first_fault (take 200 micron) ≡ refused BodyOrder 0
  pub without_nodes : first_fault no_node ≡ refused NodeCount 0
  pub name_cut_off : first_fault (patched 245 (9 ∷ [])) ≡ refused NameLength 2
  pub keyword_as_name : first_fault (patched 237 (codes "for")) ≡ refused NameText 0
  pub same_name_twice : first_fault (patched 240 (item (codes "put") ++ (2 ∷ codes "m"))) ≡ refused NameRepeated 1
  pub bell : first_fault (patched 251 (7 ∷ [])) ≡ refused StringText 0
  pub unknown_type : first_fault (patched 93 (9 ∷ [])) ≡ refused NodeFields 4
  pub past_its_parent : first_fault (patched 128 (4 ∷ [])) ≡ refused NodeSize 6
  pub step_of_two : first_fault (patched 108 (9 ∷ [])) ≡ refused NodeChildren 5
  pub too_deep_a_node : first_fault deep ≡ refused NodeDepth 65
  -- causes go by number first: a reserved byte of node 12 that is not 0 precedes a size of 0 at node 1
  pub field_before_size : first_fault (take 48 micron ++ (0 ∷ drop 49 (patched 223 (1 ∷ [])))) ≡ refused NodeFields 12
