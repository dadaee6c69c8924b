-- The worked cases, one by one, by computation.
use Rattle.std.proofs.Common.{◌≡◌, [], ◌∷◌, ◌++◌, length, take, drop, None, codes, refl}
use Rattle.finding.specs.Search.{lowest}
use Rattle.layout.specs.Head.{body_at}
use Rattle.layout.specs.Items.{split}
use Rattle.layout.specs.Texts.{keyword}
use Rattle.nodes.specs.Tree.{parent, depth, children, bad_size, too_deep}
use Rattle.layout.specs.Faults.{end_of, children_fit}
use Rattle.layout.specs.declared.fault.FileFault.TheVariants.{FileSize, Edition, BodyOrder, NodeCount, NameLength, NameText, NameRepeated, StringText, NodeFields, NodeSize, NodeChildren, NodeDepth}
use Rattle.rule_file.specs.Verdict.{first_fault}
use Rattle.rule_file.specs.Worked.{micron, empty, no_node, patched, deep, item, refused}

pub micron_size : length micron ≡ 254
micron_size = refl

pub micron_good : first_fault micron ≡ None
unfolding first_fault lowest body_at split keyword parent depth children bad_size too_deep end_of children_fit
micron_good = refl

pub empty_good : first_fault empty ≡ None
unfolding first_fault lowest body_at split keyword parent depth children bad_size too_deep end_of children_fit
empty_good = refl

pub half_a_head : first_fault (take 20 micron) ≡ refused FileSize 0
unfolding first_fault lowest body_at split keyword parent depth children bad_size too_deep end_of children_fit
half_a_head = refl

pub other_edition : first_fault (patched 0 (2 ∷ [])) ≡ refused Edition 0
unfolding first_fault lowest body_at split keyword parent depth children bad_size too_deep end_of children_fit
other_edition = refl

pub half_written : first_fault (take 200 micron) ≡ refused BodyOrder 0
unfolding first_fault lowest body_at split keyword parent depth children bad_size too_deep end_of children_fit
half_written = refl

pub without_nodes : first_fault no_node ≡ refused NodeCount 0
unfolding first_fault lowest body_at split keyword parent depth children bad_size too_deep end_of children_fit
without_nodes = refl

pub name_cut_off : first_fault (patched 245 (9 ∷ [])) ≡ refused NameLength 2
unfolding first_fault lowest body_at split keyword parent depth children bad_size too_deep end_of children_fit
name_cut_off = refl

pub keyword_as_name : first_fault (patched 237 (codes "for")) ≡ refused NameText 0
unfolding first_fault lowest body_at split keyword parent depth children bad_size too_deep end_of children_fit
keyword_as_name = refl

pub same_name_twice : first_fault (patched 240 (item (codes "put") ++ (2 ∷ codes "m"))) ≡ refused NameRepeated 1
unfolding first_fault lowest body_at split keyword parent depth children bad_size too_deep end_of children_fit
same_name_twice = refl

pub bell : first_fault (patched 251 (7 ∷ [])) ≡ refused StringText 0
unfolding first_fault lowest body_at split keyword parent depth children bad_size too_deep end_of children_fit
bell = refl

pub unknown_type : first_fault (patched 93 (9 ∷ [])) ≡ refused NodeFields 4
unfolding first_fault lowest body_at split keyword parent depth children bad_size too_deep end_of children_fit
unknown_type = refl

pub past_its_parent : first_fault (patched 128 (4 ∷ [])) ≡ refused NodeSize 6
unfolding first_fault lowest body_at split keyword parent depth children bad_size too_deep end_of children_fit
past_its_parent = refl

pub step_of_two : first_fault (patched 108 (9 ∷ [])) ≡ refused NodeChildren 5
unfolding first_fault lowest body_at split keyword parent depth children bad_size too_deep end_of children_fit
step_of_two = refl

pub too_deep_a_node : first_fault deep ≡ refused NodeDepth 65
unfolding first_fault lowest body_at split keyword parent depth children bad_size too_deep end_of children_fit
too_deep_a_node = refl

pub field_before_size : first_fault (take 48 micron ++ (0 ∷ drop 49 (patched 223 (1 ∷ [])))) ≡ refused NodeFields 12
unfolding first_fault lowest body_at split keyword parent depth children bad_size too_deep end_of children_fit
field_before_size = refl
