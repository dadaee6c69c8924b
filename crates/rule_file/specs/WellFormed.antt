-- What is so of a file without a fault: all that the layers above rely on.
--
-- The facts are local: of one name, of one string, of one node with its fields, its children and its parent.
use Rattle.std.specs.Prelude.{◌≡◌, ℕ, ◌+◌, ◌<◌, ◌≤◌, true, false, cond, List, [], ◌++◌, map, length, take, Some, ◌==◌, ◌≢◌, nat_lt, slice_index_or}
use Rattle.nodes.specs.Kinds.{number, between}
use Rattle.layout.specs.Head.{node_body, name_body, string_body}
use Rattle.layout.specs.Items.{names, strings, text}
use Rattle.layout.specs.Texts.{identifier, keyword, all, string_byte, size_of}
use Rattle.nodes.specs.Nodes.{count, node_at}
use Rattle.nodes.specs.Fields.{fields, value_fits}
use Rattle.nodes.specs.Tree.{children}
use Rattle.nodes.specs.Shapes.{shape, Arranged}
use Rattle.layout.specs.Faults.{end_of, kind_byte}
use Rattle.nodes.specs.declared.node.Node.{Node}
use Rattle.tree.specs.Spans.{Spanned, Shallow, Family}

-- Where node i ends, and how many nodes there are.
abbrev pub ends : List ℕ → ℕ → ℕ
ends file = end_of (node_body file)

abbrev pub node_count : List ℕ → ℕ
node_count file = count (node_body file)

abbrev pub name_at : List ℕ → ℕ → List ℕ
name_at file k = slice_index_or (names file) k []

abbrev pub string_at : List ℕ → ℕ → List ℕ
string_at file k = slice_index_or (strings file) k []

-- Name k: its length byte tells its length, 1 to 31; it is an identifier, no keyword, and unlike each lower name.
pub record GoodName (file : List ℕ) (k : ℕ) : Type 0 where
  pub whole : size_of (name_at file k) ≡ length (text (name_at file k))
  pub size : between 1 31 (length (text (name_at file k))) ≡ true
  pub identifies : identifier (text (name_at file k)) ≡ true
  pub no_keyword : keyword (text (name_at file k)) ≡ false
  pub alone : (j : ℕ) → j < k → name_at file j ≢ name_at file k

-- String k: its length byte tells its length, at most 63, and every byte is allowed.
pub record GoodString (file : List ℕ) (k : ℕ) : Type 0 where
  pub whole : size_of (string_at file k) ≡ length (text (string_at file k))
  pub size : between 0 63 (length (text (string_at file k))) ≡ true
  pub bytes : all string_byte (text (string_at file k)) ≡ true

-- Node i is n: its tag, name and value are as its kind allows, and its children are arranged in the slots of its kind.
pub record GoodNode (file : List ℕ) (i : ℕ) (n : Node) : Type 0 where
  pub shown : node_at (node_body file) i ≡ Some n
  pub kind : kind_byte (node_body file) i ≡ number n.kind
  pub tag : between (fields n.kind).first (fields n.kind).last n.tag ≡ true
  pub name : cond (fields n.kind).named (nat_lt n.name (length (names file))) (n.name == 0) ≡ true
  pub value : value_fits (fields n.kind).value n.tag (length (strings file)) n.value ≡ true
  pub size : ends file i ≡ i + n.size
  pub children : Arranged (shape n.kind) (map (kind_byte (node_body file)) (children (ends file) i))

pub record WellFormed (file : List ℕ) : Type 0 where
  -- together with the head, the bodies are the file
  pub bodies : take 28 file ++ (node_body file ++ (name_body file ++ string_body file)) ≡ file
  pub few_nodes : (1 ≤ node_count file) × (node_count file ≤ 1024)
  pub few_names : length (names file) ≤ 255
  pub few_strings : length (strings file) ≤ 255
  pub good_names : (k : ℕ) → k < length (names file) → GoodName file k
  pub good_strings : (k : ℕ) → k < length (strings file) → GoodString file k
  pub good_nodes : (i : ℕ) → i < node_count file → (n : Node) × GoodNode file i n
  pub program : kind_byte (node_body file) 0 ≡ 1
  pub spans : Spanned (ends file) (node_count file)
  pub shallow : Shallow (ends file) (node_count file)
  pub families : Family (ends file) (node_count file)
