-- The table of a file without a fault has the file's nodes.
use Rattle.std.proofs.Common.{◌≡◌, ℕ, zero, suc, ◌+◌, ◌*◌, ◌/◌, ◌%◌, ◌<◌, ◌≤◌, true, cond, eqb, ltb, List, [], ◌∷◌, map, length, get_or, None, unwrap_or, sym, refl, ap, ◌∙◌, subst, inl, inr, arith}
use mathlib.Core.Path.{fun_ext}
use borrow.Author.Tests.{not-false}
use Rattle.std.proofs.lemmas.List.{get_or_past}
use Rattle.std.proofs.lemmas.Grind.{common_steps}
use Rattle.std.proofs.lemmas.Bool.Decides.{nat_tests}
use Rattle.std.proofs.lemmas.Bool.{cases_lt}
use Rattle.nodes.specs.Bytes.{le16}
use Rattle.nodes.specs.Kinds.{number, between}
use Rattle.nodes.specs.Fields.{fields, value_fits}
use Rattle.nodes.specs.Nodes.{node_at}
use Rattle.nodes.specs.Shapes.{shape, Arranged}
use Rattle.nodes.specs.Tree.{children}
use Rattle.nodes.specs.declared.node.Node.{Node}
use Rattle.layout.specs.Head.{part, contents, counted, node_body}
use Rattle.layout.specs.Items as items
use Rattle.layout.specs.Faults.{end_of, kind_byte}
use Rattle.tree.specs.Spans.{Spanned, Shallow, Family, Chain}
use Rattle.rule_file.specs.Verdict.{causes, first_fault}
use Rattle.rule_file.specs.WellFormed.{ends, node_count, WellFormed}
use Rattle.rule_file.proofs.Judging.{first_clear}
use Rattle.rule_file.proofs.Parts.{laid, nodes_long}
use Rattle.rule_file.proofs.Sound.{well_formed}
use Rattle.node_rules.specs.Tables.{blank, tabulate, nodes_of, node, kind_at, end}
use Rattle.rule_laws.specs.Shaped.{FittingNode, Shaped, TablesShaped}

tabulate_length : {X : Type 0} (f : ℕ → X) (n : ℕ) → length (tabulate f n) ≡ n
tabulate_length f zero = refl
tabulate_length f (suc n) = grind (arith, common_steps, tabulate_length f n)

tabulate_at : {X : Type 0} (f : ℕ → X) (n i : ℕ) (d : X) → i < n → get_or (tabulate f n) i d ≡ f i
tabulate_at f zero i d l = absurd (omega arith)
tabulate_at f (suc n) i d l =
    let long = tabulate_length f n in
    elim (cases_lt i n) [
      | inl lt ↦ let e = tabulate_at f n i d lt in grind (arith, common_steps)
      | inr le ↦ grind (arith, common_steps)
    ]

-- the nodes are whole records
counted_whole : (file : List ℕ) → counted (contents file) ≡ true → (part file 4).length % 16 ≡ 0
counted_whole file h = grind (arith, nat_tests)

body_whole : (file : List ℕ) → first_fault file ≡ None → length (node_body file) % 16 ≡ 0
unfolding first_fault
body_whole file h =
    let clear = first_clear causes file h in
    let w = laid file (not-false _ (clear.1.1.0 0 (omega arith))) in
    rw (nodes_long file w) (counted_whole file (not-false _ (clear.1.1.1.0 0 (omega arith))))

-- past the last node there is no size
past_end : (body : List ℕ) (i : ℕ) → length body % 16 ≡ 0 → length body / 16 ≤ i → le16 body (16 * i + 4) ≡ 0
past_end body i whole l = grind (arith, common_steps)

module _ (file : List ℕ) (none : first_fault file ≡ None) where
  sound : WellFormed file
  sound = well_formed file none

  pub table_long : length (nodes_of file) ≡ node_count file
  unfolding nodes_of
  table_long = tabulate_length (λ i. unwrap_or (node_at (node_body file) i) blank) (node_count file)

  node_is : (i : ℕ) (l : i < node_count file) → node (nodes_of file) i ≡ (sound.good_nodes i l).0
  unfolding nodes_of
  node_is i l =
      tabulate_at (λ i. unwrap_or (node_at (node_body file) i) blank) (node_count file) i blank l
      ∙ ap (λ o. unwrap_or o blank) (sound.good_nodes i l).1.shown

  kind_is : (i : ℕ) → i < node_count file → kind_byte (node_body file) i ≡ kind_at (nodes_of file) i
  kind_is i l = (sound.good_nodes i l).1.kind ∙ ap (λ n. number n.kind) (sym (node_is i l))

  node_past : (i : ℕ) → node_count file ≤ i → node (nodes_of file) i ≡ blank
  node_past i l = get_or_past (nodes_of file) i blank (omega (arith, table_long))

  end_is : (i : ℕ) → ends file i ≡ end (nodes_of file) i
  unfolding end_of
  end_is i =
      elim (cases_lt i (node_count file)) [
        | inl lt ↦ (sound.good_nodes i lt).1.size ∙ ap (λ n. i + n.size) (sym (node_is i lt))
        | inr le ↦ ap (λ z. i + z) (past_end (node_body file) i (body_whole file none) le) ∙ ap (λ n. i + n.size) (sym (node_past i le))
      ]

  ends_are : ends file ≡ end (nodes_of file)
  ends_are = fun_ext end_is

  kinds_are : (j stop : ℕ) (cs : List ℕ) → stop ≤ node_count file → Chain (ends file) j stop cs → map (kind_byte (node_body file)) cs ≡ map (kind_at (nodes_of file)) cs
  kinds_are j stop [] l h = refl
  kinds_are j stop (c ∷ cs) l h =
      ap (λ k. k ∷ map (kind_byte (node_body file)) cs) (kind_is c (omega (arith, h.0, h.1.0)))
      ∙ ap (λ ks. kind_at (nodes_of file) c ∷ ks) (kinds_are (ends file j) stop cs l h.1.1)

  arranged_at : (i : ℕ) (l : i < node_count file) → Arranged (shape (node (nodes_of file) i).kind) (map (kind_at (nodes_of file)) (children (end (nodes_of file)) i))
  arranged_at i l =
      let a = (sound.good_nodes i l).1.children in
      let m = kinds_are (i + 1) (ends file i) (children (ends file) i) (sound.spans.within i l) (sound.families.ordered i l) in
      subst (λ (e : ℕ → ℕ). Arranged (shape (node (nodes_of file) i).kind) (map (kind_at (nodes_of file)) (children e i))) ends_are
      (subst (λ (n : Node). Arranged (shape n.kind) (map (kind_at (nodes_of file)) (children (ends file) i))) (sym (node_is i l))
      (subst (λ (ks : List ℕ). Arranged (shape (sound.good_nodes i l).0.kind) ks) m a))

  fitting : (i : ℕ) → i < node_count file → FittingNode (nodes_of file) (length (items.names file)) (length (items.strings file)) i
  fitting i l =
      let g = (sound.good_nodes i l).1 in
      let q = sym (node_is i l) in
      record {
        tag = subst (λ (n : Node). between (fields n.kind).first (fields n.kind).last n.tag ≡ true) q g.tag;
        name = subst (λ (n : Node). cond (fields n.kind).named (ltb n.name (length (items.names file))) (eqb n.name 0) ≡ true) q g.name;
        value = subst (λ (n : Node). value_fits (fields n.kind).value n.tag (length (items.strings file)) n.value ≡ true) q g.value;
        children_arranged = arranged_at i l;
      }

  shaped_table : Shaped (nodes_of file) (length (items.names file)) (length (items.strings file))
  shaped_table =
      let n = sym table_long in
      record {
        few = subst (λ (k : ℕ). (1 ≤ k) × (k ≤ 1024)) n sound.few_nodes;
        program = sym (kind_is 0 sound.few_nodes.0) ∙ sound.program;
        nodes_fit = λ i l. fitting i (omega (arith, table_long));
        spans = subst (λ (k : ℕ). Spanned (end (nodes_of file)) k) n (subst (λ (e : ℕ → ℕ). Spanned e (node_count file)) ends_are sound.spans);
        shallow = subst (λ (k : ℕ). Shallow (end (nodes_of file)) k) n (subst (λ (e : ℕ → ℕ). Shallow e (node_count file)) ends_are sound.shallow);
        families = subst (λ (k : ℕ). Family (end (nodes_of file)) k) n (subst (λ (e : ℕ → ℕ). Family e (node_count file)) ends_are sound.families);
      }

pub tables_shaped : TablesShaped
tables_shaped file none = shaped_table file none
