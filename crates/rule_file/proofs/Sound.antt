-- A file without a fault is well formed.
use Rattle.std.proofs.Common.{◌≡◌, ℕ, ◌+◌, ◌*◌, ◌<◌, ◌≤◌, true, false, not, ◌&&◌, eqb, cond, List, [], ◌++◌, length, get_or, Some, None, Ok, Err, Option, Result, sym, refl, ap, ◌∙◌, inl, inr, arith, lt-ltb, eqb-true}
use borrow.Author.Tests.{not-false}
use Rattle.std.proofs.lemmas.Bool.{cases_lt}
use Rattle.finding.specs.Checks.{passes_unless}
use Rattle.std.proofs.lemmas.Bool.{or_parts}
use Rattle.nodes.specs.Bytes.{byte, window}
use Rattle.layout.specs.Head.{node_body, name_body, string_body}
use Rattle.nodes.specs.Kinds.{kind_of, between}
use Rattle.layout.specs.Items.{names, strings, text}
use Rattle.layout.specs.Texts.{identifier, keyword, all, string_byte, misfit}
use Rattle.nodes.specs.Nodes.{count}
use Rattle.layout.specs.Faults.{end_of, kind_byte, children_fit, first_among, head_causes, text_causes, node_causes}
use Rattle.nodes.specs.declared.node.Node.{Node}
use Rattle.tree.specs.Spans.{Spanned}
use Rattle.tree.proofs.Nesting.{spanned, shallow}
use Rattle.tree.proofs.Arranging.{arranged}
use Rattle.tree.proofs.Families.{family}
use Rattle.finding.specs.Search.{first_of}
use Rattle.finding.specs.declared.Finding.{Finding}
use Rattle.layout.specs.declared.fault.FileFault.{FileFault}
use Rattle.rule_file.specs.Verdict.{causes, first_fault, Judged}
use Rattle.rule_file.specs.WellFormed.{ends, node_count, name_at, string_at, GoodName, GoodString, GoodNode, WellFormed}
use Rattle.rule_file.proofs.Judging.{Clear, first_joined, first_clear}
use Rattle.rule_file.proofs.Parts.{Laid, laid, bodies_whole, few, few_between}
use Rattle.rule_file.proofs.Local.{item_short, Fit, fit, unlike, kind_number, byte_window, Shown, record_shown, children_fill}

-- at most 255 items, where no 256th was met
few_items : (all : List (List ℕ)) (least most : ℕ) → ((k : ℕ) → k < length all → Fit least most k (get_or all k [])) → length all ≤ 255
few_items all least most h =
    elim (cases_lt 255 (length all)) [ inl lt ↦ absurd ((h 255 lt).early refl) | inr le ↦ le ]

module _ (file : List ℕ) (clear : Clear causes file) where
  laid_out : Laid file
  laid_out = laid file (not-false _ (clear.1.1.0 0 (omega arith)))

  few_nodes_in : (1 ≤ node_count file) × (node_count file ≤ 1024)
  few_nodes_in = few file laid_out (not-false _ (clear.1.1.1.0 0 (omega arith)))

  name_fit : (k : ℕ) → k < length (names file) → Fit 1 31 k (name_at file k)
  name_fit k l = fit 1 31 k (name_at file k) (item_short (name_body file) k l) (clear.1.1.1.1.0 k l)

  string_bad : (k : ℕ) → k < length (strings file) → (misfit 0 63 k (string_at file k) ≡ false) × (not (all string_byte (text (string_at file k))) ≡ false)
  string_bad k l = or_parts _ _ (clear.1.1.1.1.1.1.1.0 k l)

  string_fit : (k : ℕ) → k < length (strings file) → Fit 0 63 k (string_at file k)
  string_fit k l = fit 0 63 k (string_at file k) (item_short (string_body file) k l) (string_bad k l).0

  good_name : (k : ℕ) → k < length (names file) → GoodName file k
  good_name k l =
      let f = name_fit k l in
      let t = or_parts (not (identifier (text (name_at file k)))) (keyword (text (name_at file k))) (clear.1.1.1.1.1.0 k l) in
      record {
        whole = f.whole;
        size = f.size;
        identifies = not-false _ t.0;
        no_keyword = t.1;
        alone = λ j m q. unlike (name_at file k) (names file) k j m (omega arith) (clear.1.1.1.1.1.1.0 k l) q;
      }

  good_string : (k : ℕ) → k < length (strings file) → GoodString file k
  good_string k l =
      let f = string_fit k l in
      record { whole = f.whole; size = f.size; bytes = not-false _ (string_bad k l).1 }

  sound_spans : Spanned (ends file) (node_count file)
  sound_spans = spanned (ends file) (node_count file) few_nodes_in.0 clear.1.1.1.1.1.1.1.1.1.0

  children_at : (i : ℕ) → i < node_count file → (not (children_fit (node_body file) i) ≡ false) × ((eqb i 0 && not (eqb (kind_byte (node_body file) i) 1)) ≡ false)
  children_at i l = or_parts _ _ (clear.1.1.1.1.1.1.1.1.1.1.0 i l)

  good_node_as : (i : ℕ) → i < node_count file → (n : Node) → Shown (length (names file)) (length (strings file)) (window (node_body file) (16 * i) 16) n → GoodNode file i n
  unfolding end_of
  good_node_as i l n s =
      let body = node_body file in
      let w = byte_window body (16 * i) 16 in
      let e0 : byte (window body (16 * i) 16) 0 ≡ kind_byte body i = w 0 (omega arith) ∙ ap (byte body) (omega arith) in
      let e5 : byte (window body (16 * i) 16) 5 ≡ byte body (16 * i + 4 + 1) = w 5 (omega arith) ∙ ap (byte body) (omega arith) in
      let e4 : byte (window body (16 * i) 16) 4 ≡ byte body (16 * i + 4) = w 4 (omega arith) in
      let k = sym (ap kind_of e0) ∙ s.kind in
      record {
        shown = rw (lt-ltb i (count body) l) s.node;
        kind = kind_number (kind_byte body i) n.kind k;
        tag = s.tag;
        name = s.name;
        value = s.value;
        size = ap (λ z. i + z) (sym (s.size ∙ (λ j. e4 j + e5 j * 256)));
        children = arranged _ _ (children_fill body i n.kind k (not-false _ (children_at i l).0));
      }

  good_node : (i : ℕ) → i < node_count file → (n : Node) × GoodNode file i n
  good_node i l =
      let s = record_shown (length (names file)) (length (strings file)) (window (node_body file) (16 * i) 16) (clear.1.1.1.1.1.1.1.1.0 i l) in
      (s.0, good_node_as i l s.0 s.1)

  pub clear_well_formed : WellFormed file
  clear_well_formed =
      record {
        bodies = bodies_whole file laid_out;
        few_nodes = few_nodes_in;
        few_names = few_items (names file) 1 31 name_fit;
        few_strings = few_items (strings file) 0 63 string_fit;
        good_names = good_name;
        good_strings = good_string;
        good_nodes = good_node;
        program = eqb-true _ 1 (not-false _ (children_at 0 few_nodes_in.0).1);
        spans = sound_spans;
        shallow = shallow (ends file) (node_count file) sound_spans clear.1.1.1.1.1.1.1.1.1.1.1.0;
        families = family (ends file) (node_count file) sound_spans;
      }

pub well_formed : (file : List ℕ) → first_fault file ≡ None → WellFormed file
unfolding first_fault
well_formed file h = clear_well_formed file (first_clear causes file h)

-- the first fault, part by part
in_parts : (file : List ℕ) → first_fault file ≡ first_of (first_among head_causes file) (first_of (first_among text_causes file) (first_among node_causes file))
unfolding first_fault
in_parts file =
    first_joined head_causes (text_causes ++ node_causes) file
    ∙ ap (first_of (first_among head_causes file)) (first_joined text_causes node_causes file)

-- where the head has no fault, there are as many nodes as may be looked at
looked_at : (file : List ℕ) → first_among head_causes file ≡ None → between 1 1024 (count (node_body file)) ≡ true
looked_at file h =
    let clear = first_clear head_causes file h in
    let f = few file (laid file (not-false _ (clear.1.1.0 0 (omega arith)))) (not-false _ (clear.1.1.1.0 0 (omega arith))) in
    few_between (count (node_body file)) f.0 f.1

passed : (o : Option (Finding FileFault)) → Ok tt ≡ passes_unless o → o ≡ None
passed None h = refl
passed (Some x) h = let z : ◌≡◌ {A = ℕ} 0 1 = cc in absurd (omega arith)

judged : (r : Result Unit (Finding FileFault)) (file : List ℕ) → r ≡ passes_unless (first_fault file) → Judged r file
judged r file h = record { first = h; sound = λ e. well_formed file (passed (first_fault file) (sym e ∙ h)) }

failed : (o p : Option (Finding FileFault)) (x : Finding FileFault) → Err x ≡ passes_unless o → Err x ≡ passes_unless (first_of o p)
failed None p x h = let z : ◌≡◌ {A = ℕ} 0 1 = cc in absurd (omega arith)
failed (Some y) p x h = h

-- The verdict is the head's where that fails, else that of the names and strings where they fail, else that of the nodes.
module _ (file : List ℕ) (r : Result Unit (Finding FileFault)) where
  pub head_fails : (x : Finding FileFault) → r ≡ Err x → Err x ≡ passes_unless (first_among head_causes file) → Judged r file
  head_fails x e h = judged r file (e ∙ failed _ (first_of (first_among text_causes file) (first_among node_causes file)) x h ∙ ap passes_unless (sym (in_parts file)))

  past_head : Ok tt ≡ passes_unless (first_among head_causes file) → first_fault file ≡ first_of (first_among text_causes file) (first_among node_causes file)
  past_head h = in_parts file ∙ ap (λ o. first_of o (first_of (first_among text_causes file) (first_among node_causes file))) (passed _ h)

  pub texts_fail : (x : Finding FileFault) → r ≡ Err x → Ok tt ≡ passes_unless (first_among head_causes file) → Err x ≡ passes_unless (first_among text_causes file) → Judged r file
  texts_fail x e h t = judged r file (e ∙ failed _ (first_among node_causes file) x t ∙ ap passes_unless (sym (past_head h)))

  pub nodes_judge : Ok tt ≡ passes_unless (first_among head_causes file) → Ok tt ≡ passes_unless (first_among text_causes file) → r ≡ passes_unless (cond (between 1 1024 (count (node_body file))) (first_among node_causes file) None) → Judged r file
  nodes_judge h t n =
      let few : between 1 1024 (count (node_body file)) ≡ true = looked_at file (passed _ h) in
      let all : first_fault file ≡ first_among node_causes file = past_head h ∙ ap (λ o. first_of o (first_among node_causes file)) (passed _ t) in
      judged r file (n ∙ ap (λ b. passes_unless (cond b (first_among node_causes file) None)) few ∙ ap passes_unless (sym all))
