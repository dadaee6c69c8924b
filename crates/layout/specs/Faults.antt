-- The faults of a file: a test of one place for each cause, and which fault is the answer.
--
-- A file is examined cause by cause, in the order of their numbers, and of one cause the lowest place is told. So a name
-- of a wrong length precedes a name that is a keyword, wherever the two stand. A later cause is only looked at where the
-- earlier ones do not apply, and its test means little elsewhere.
use Rattle.std.specs.Prelude.{ℕ, ◌+◌, ◌*◌, Bool, not, ◌&&◌, ◌||◌, List, [], ◌∷◌, map, length, take, Some, None, Option, ◌==◌, slice_index_or}
use Rattle.finding.specs.Search.{lowest}
use Rattle.finding.specs.declared.Finding.{Finding}
use Rattle.nodes.specs.Bytes.{byte, window, le16}
use Rattle.nodes.specs.Kinds.{kind_of}
use Rattle.layout.specs.Head.{contents, node_body, sized, edition_one, contiguous, counted}
use Rattle.layout.specs.Items.{names, strings}
use Rattle.layout.specs.Texts.{among, bad_name_length, bad_name, bad_string}
use Rattle.nodes.specs.Nodes.{count}
use Rattle.nodes.specs.Fields.{bad_fields}
use Rattle.nodes.specs.Tree.{children, bad_size, too_deep}
use Rattle.nodes.specs.Shapes.{shape, fill}
use Rattle.nodes.specs.declared.kind.Kind.{Kind}
use Rattle.nodes.specs.declared.shape.Slot.{Slot}
use Rattle.layout.specs.declared.fault.FileFault.{FileFault}
use Rattle.layout.specs.declared.fault.FileFault.TheVariants.{FileSize, Edition, BodyOrder, NodeCount, NameLength, NameText, NameRepeated, StringText, NodeFields, NodeSize, NodeChildren, NodeDepth}

-- The number by which a fault is answered.
abbrev pub number_of : FileFault → ℕ
number_of FileSize = 1
number_of Edition = 2
number_of BodyOrder = 3
number_of NodeCount = 4
number_of NameLength = 5
number_of NameText = 6
number_of NameRepeated = 7
number_of StringText = 8
number_of NodeFields = 9
number_of NodeSize = 10
number_of NodeChildren = 11
number_of NodeDepth = 12

-- Of a body of nodes: where node i ends, and the number of its kind.
unfoldable pub end_of : List ℕ → ℕ → ℕ
end_of body i = i + le16 body (16 * i + 4)

abbrev pub kind_byte : List ℕ → ℕ → ℕ
kind_byte body i = byte body (16 * i)

-- The slots that node i's children are to fill.
abbrev pub slots : Option Kind → Option (List Slot)
slots None = None
slots (Some k) = Some (shape k)

-- The children of node i are of the kinds, in the order and of the number that its own kind asks for.
unfoldable pub children_fit : List ℕ → ℕ → Bool
children_fit body i = fill (slots (kind_of (kind_byte body i))) (map (kind_byte body) (children (end_of body) i))

-- They do not, or node 0 is no program.
abbrev pub bad_children : List ℕ → ℕ → Bool
bad_children body i = not (children_fit body i) || (i == 0 && not (kind_byte body i == 1))

-- The fault at a place: 0 for the file as a whole, else the number of a name, a string or a node.
abbrev pub fault : FileFault → List ℕ → ℕ → Bool
fault FileSize file p = not (sized file)
fault Edition file p = not (edition_one file)
fault BodyOrder file p = not (contiguous (length file) (contents file))
fault NodeCount file p = not (counted (contents file))
fault NameLength file p = bad_name_length p (slice_index_or (names file) p [])
fault NameText file p = bad_name (slice_index_or (names file) p [])
fault NameRepeated file p = among (slice_index_or (names file) p []) (take p (names file))
fault StringText file p = bad_string p (slice_index_or (strings file) p [])
fault NodeFields file p = bad_fields (length (names file)) (length (strings file)) (window (node_body file) (16 * p) 16)
fault NodeSize file p = bad_size (end_of (node_body file)) (count (node_body file)) p
fault NodeChildren file p = bad_children (node_body file) p
fault NodeDepth file p = too_deep (end_of (node_body file)) p

-- How many places are looked at for a cause.
abbrev pub places : FileFault → List ℕ → ℕ
places FileSize file = 1
places Edition file = 1
places BodyOrder file = 1
places NodeCount file = 1
places NameLength file = length (names file)
places NameText file = length (names file)
places NameRepeated file = length (names file)
places StringText file = length (strings file)
places NodeFields file = count (node_body file)
places NodeSize file = count (node_body file)
places NodeChildren file = count (node_body file)
places NodeDepth file = count (node_body file)

-- The lowest place of a cause.
abbrev pub place_of : FileFault → List ℕ → Option ℕ
place_of cause file = lowest (fault cause file) (places cause file)

-- A cause at its place, or else what the causes after it give.
abbrev pub or_later : FileFault → Option ℕ → Option (Finding FileFault) → Option (Finding FileFault)
or_later cause None later = later
or_later cause (Some p) later = Some (record { place = p; cause = cause })

-- The first of some causes that applies.
abbrev pub first_among : List FileFault → List ℕ → Option (Finding FileFault)
first_among [] file = None
first_among (c ∷ cs) file = or_later c (place_of c file) (first_among cs file)

abbrev pub head_causes : List FileFault
head_causes = FileSize ∷ Edition ∷ BodyOrder ∷ NodeCount ∷ []

abbrev pub text_causes : List FileFault
text_causes = NameLength ∷ NameText ∷ NameRepeated ∷ StringText ∷ []

abbrev pub node_causes : List FileFault
node_causes = NodeFields ∷ NodeSize ∷ NodeChildren ∷ NodeDepth ∷ []
