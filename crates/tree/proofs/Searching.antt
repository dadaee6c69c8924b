-- The lowest place that a chain finds: over the numbers from 0 on, and over the records of a body.
use Rattle.std.proofs.Common.{Bor, ◌≡◌, ℕ, suc, ◌+◌, ◌*◌, ◌/◌, ◌<◌, ◌≤◌, Bool, true, false, List, [], ◌∷◌, ◌++◌, length, take, drop, Some, None, Option, sym, ap, ◌∙◌, inl, inr, arith}
use Rattle.std.specs.Option.{MatchOption}
use Rattle.std.specs.List.{FoldsTo}
use Rattle.std.specs.Iterator.{Yields}
use Rattle.std.specs.declared.slice.ChunksExact.{ChunksExact}
use Rattle.std.specs.Slice.Iter.{chunks_exact_steps, chunks_exact_rest, chunks_exact_size}
use Rattle.std.proofs.lemmas.List.{length-append, length-drop, drop-drop}
use Rattle.std.proofs.lemmas.Bool.{cases_lt}
use Rattle.std.proofs.Math.Seq.{take-append_seam, drop-append_seam}
use Rattle.nodes.specs.Bytes.{window}
use Rattle.finding.specs.Search.{lowest}
use Rattle.finding.proofs.Lowest.{lowest_at, lowest_none}

pub lowest_found : (t : ℕ → Bool) (n : ℕ) (r : Option ℕ) → MatchOption r ((k : ℕ) → 0 ≤ k → k < n → t k ≡ false) (λ i. (0 ≤ i) × (i < n) × (t i ≡ true) × ((k : ℕ) → 0 ≤ k → k < i → t k ≡ false)) → r ≡ lowest t n
lowest_found t n None h = sym (lowest_none t n (λ k l. h k (omega arith) l))
lowest_found t n (Some i) h = sym (lowest_at t n i h.1 (λ k l. h.3 k (omega arith) l) h.2)

-- The records of a body, one after another, from record i on.
record From (body : List ℕ) (s : ChunksExact ℕ) (i : ℕ) : Type 0 where
  rest : chunks_exact_rest s ≡ drop (16 * i) body
  size : chunks_exact_size s ≡ 16
  within : 16 * i ≤ length body

module _ (body : List ℕ) where
  from_first : (s : ChunksExact ℕ) → chunks_exact_rest s ≡ body → chunks_exact_size s ≡ 16 → From body s 0
  from_first s r z = record { rest = r; size = z; within = omega arith }

  from_next : (s t : ChunksExact ℕ) (x : Bor (List ℕ)) (i : ℕ) → From body s i → chunks_exact_steps s (Some x) t → From body t (i + 1) × (x.now ≡ window body (16 * i) 16)
  from_next s t x i f h =
      let l : length x.now ≡ 16 = h.1.1 ∙ f.size in
      let e : drop (16 * i) body ≡ x.now ++ chunks_exact_rest t = sym f.rest ∙ h.1.0 in
      let n : length (drop (16 * i) body) ≡ length x.now + length (chunks_exact_rest t) = ap length e ∙ length-append x.now (chunks_exact_rest t) in
      let m = length-drop (16 * i) body in
      let a : drop (length x.now) (drop (16 * i) body) ≡ chunks_exact_rest t = ap (drop (length x.now)) e ∙ drop-append_seam x.now (chunks_exact_rest t) in
      let b : take (length x.now) (drop (16 * i) body) ≡ x.now = ap (take (length x.now)) e ∙ take-append_seam x.now (chunks_exact_rest t) in
      let q : 16 * i + length x.now ≡ 16 * (i + 1) = omega arith in (
        record {
          rest = sym a ∙ drop-drop (length x.now) (16 * i) body ∙ ap (λ n. drop n body) q;
          size = h.0 ∙ f.size;
          within = omega arith;
        },
        sym b ∙ ap (λ n. take n (drop (16 * i) body)) l,
      )

  module _ {F : Type 0} (test : List ℕ → Bool) (turn : F → Bor (List ℕ) → F → Type 0) (f : F) (passed : (x : Bor (List ℕ)) (q : F) → turn f x q → (q ≡ f) × (test x.now ≡ false)) where
    passed_so_far : (xs : List (Bor (List ℕ))) (s t : ChunksExact ℕ) (q : F) (i : ℕ) → From body s i → Yields chunks_exact_steps s xs t → FoldsTo turn f xs q → From body t (i + length xs) × ((k : ℕ) → i ≤ k → k < i + length xs → test (window body (16 * k) 16) ≡ false)
    passed_so_far [] s t q i g y z = (let e : i + 0 ≡ i = omega arith in rw (e, ← y) g, λ k a b. absurd (omega arith))
    passed_so_far (x ∷ xs) s t q i g y z =
        let n = from_next s y.0 x i g y.1 in
        let h = passed x z.0 z.1 in
        let w : FoldsTo turn f xs q = rw h.0 at z.2 in
        let r = passed_so_far xs y.0 t q (i + 1) n.0 y.2 w in
        let e : i + 1 + length xs ≡ i + suc (length xs) = omega arith in
        let here : test (window body (16 * i) 16) ≡ false = sym (ap test n.1) ∙ h.1 in (
          rw e at r.0,
          λ k a b. elim (cases_lt i k) [ inl lt ↦ r.1 k (omega arith) (omega arith) | inr le ↦ let w : k ≡ i = omega arith in rw w here ],
        )

    kept : (xs : List (Bor (List ℕ))) (q : F) → FoldsTo turn f xs q → q ≡ f
    kept [] q z = sym z
    kept (x ∷ xs) q z =
        let h = passed x z.0 z.1 in
        let w : FoldsTo turn f xs q = rw h.0 at z.2 in
        kept xs q w

    pub lowest_record : (t : ℕ → Bool) → ((k : ℕ) → t k ≡ test (window body (16 * k) 16)) → (xs : List (Bor (List ℕ))) (s u v : ChunksExact ℕ) (q : F) (o : Option (Bor (List ℕ))) (r : Option ℕ) (Stop : Bor (List ℕ) → Type 0) → (q ≡ f → (x : Bor (List ℕ)) → Stop x → (r ≡ Some (length xs)) × (test x.now ≡ true)) → chunks_exact_rest s ≡ body → chunks_exact_size s ≡ 16 → Yields chunks_exact_steps s xs u → chunks_exact_steps u o v → FoldsTo turn f xs q → MatchOption o (r ≡ None) Stop → r ≡ lowest t (length body / 16)
    lowest_record t told xs s u v q None r Stop stops rest size y last z m =
        let a = passed_so_far xs s u q 0 (from_first s rest size) y z in
        let d = length-drop (16 * (0 + length xs)) body in
        let w = a.0.within in
        let e = ap length a.0.rest in
        let b : length (chunks_exact_rest u) < 16 = omega (arith, last.1.0, a.0.size) in
        m ∙ sym (lowest_none t (length body / 16) (λ k l. told k ∙ a.1 k (omega arith) (omega arith)))
    lowest_record t told xs s u v q (Some x) r Stop stops rest size y last z m =
        let a = passed_so_far xs s u q 0 (from_first s rest size) y z in
        let n = from_next u v x (0 + length xs) a.0 last in
        let w = n.0.within in
        let e = stops (kept xs q z) x m in
        let i : 0 + length xs ≡ length xs = omega arith in
        let h : test (window body (16 * length xs) 16) ≡ true = sym (ap test (rw i at n.1)) ∙ e.1 in
        e.0 ∙ sym (lowest_at t (length body / 16) (length xs) (omega arith) (λ k l. told k ∙ a.1 k (omega arith) (omega arith)) (told (length xs) ∙ h))
