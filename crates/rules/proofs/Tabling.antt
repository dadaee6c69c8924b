-- The table of a file without a fault has the file's nodes, names and strings.
use Rattle.std.proofs.Common.{◌≡◌, ℕ, zero, suc, ◌<◌, ◌≤◌, true, cond, eqb, ltb, List, [], ◌∷◌, ◌++◌, map, length, None, unwrap_or, sym, refl, ap, subst}
use Rattle.std.proofs.lemmas.List.{length-map}
use Rattle.nodes.specs.Kinds.{between}
use Rattle.nodes.specs.Fields.{fields, value_fits}
use Rattle.nodes.specs.Nodes.{node_at}
use Rattle.nodes.specs.Shapes.{shape, Arranged}
use Rattle.nodes.specs.declared.node.Node.{Node}
use Rattle.layout.specs.Head.{node_body}
use Rattle.layout.specs.Items as items
use Rattle.tree.specs.Spans.{Spanned, Shallow, Family}
use Rattle.rule_file.specs.Verdict.{first_fault}
use Rattle.rule_file.specs.WellFormed.{node_count}
use Rattle.node_rules.specs.Tables as newer
use Rattle.rule_laws.specs.Shaped as newer_shaped
use Rattle.rule_laws.proofs.Tabling as newer_tabling
use Rattle.rules.specs.Tables.{blank, tabulate, table_of, node}
use Rattle.rules.specs.Shaped.{FittingNode, TablesShaped}

tabulate_same : {X : Type 0} (f : ℕ → X) (n : ℕ) → newer.tabulate f n ≡ tabulate f n
tabulate_same f zero = refl
tabulate_same f (suc n) = ap (λ xs. xs ++ f n ∷ []) (tabulate_same f n)

module _ (file : List ℕ) (none : first_fault file ≡ None) where
  shaped : newer_shaped.Shaped (newer.nodes_of file) (length (items.names file)) (length (items.strings file))
  shaped = newer_tabling.tables_shaped file none

  nodes_same : newer.nodes_of file ≡ (table_of file).nodes
  unfolding newer.nodes_of table_of
  nodes_same = tabulate_same (λ i. unwrap_or (node_at (node_body file) i) blank) (node_count file)

  names_long : length (items.names file) ≡ length (table_of file).names
  unfolding table_of
  names_long = sym (length-map (items.names file) items.text)

  strings_long : length (items.strings file) ≡ length (table_of file).strings
  unfolding table_of
  strings_long = sym (length-map (items.strings file) items.text)

  along : (P : List Node → Type 0) → P (newer.nodes_of file) → P (table_of file).nodes
  along P p = subst P nodes_same p

  fitting : (i : ℕ) → i < length (newer.nodes_of file) → FittingNode (table_of file) i
  fitting i l =
      let fit = shaped.nodes_fit i l in
      record {
        tag = along (λ ns. between (fields (newer.node ns i).kind).first (fields (newer.node ns i).kind).last (newer.node ns i).tag ≡ true) fit.tag;
        name = subst (λ (k : ℕ). cond (fields (node (table_of file) i).kind).named (ltb (node (table_of file) i).name k) (eqb (node (table_of file) i).name 0) ≡ true) names_long
            (along (λ ns. cond (fields (newer.node ns i).kind).named (ltb (newer.node ns i).name (length (items.names file))) (eqb (newer.node ns i).name 0) ≡ true) fit.name);
        value = subst (λ (k : ℕ). value_fits (fields (node (table_of file) i).kind).value (node (table_of file) i).tag k (node (table_of file) i).value ≡ true) strings_long
            (along (λ ns. value_fits (fields (newer.node ns i).kind).value (newer.node ns i).tag (length (items.strings file)) (newer.node ns i).value ≡ true) fit.value);
        children_arranged = along (λ ns. Arranged (shape (newer.node ns i).kind) (map (newer.kind_at ns) (newer.parts ns i))) fit.children_arranged;
      }

pub tables_shaped : TablesShaped
tables_shaped file none =
    record {
      few = along file none (λ ns. (1 ≤ length ns) × (length ns ≤ 1024)) (shaped file none).few;
      program = along file none (λ ns. newer.kind_at ns 0 ≡ 1) (shaped file none).program;
      nodes_fit = λ i l. fitting file none i (along file none (λ ns. i < length ns → i < length (newer.nodes_of file)) (λ l. l) l);
      spans = along file none (λ ns. Spanned (newer.end ns) (length ns)) (shaped file none).spans;
      shallow = along file none (λ ns. Shallow (newer.end ns) (length ns)) (shaped file none).shallow;
      families = along file none (λ ns. Family (newer.end ns) (length ns)) (shaped file none).families;
    }
