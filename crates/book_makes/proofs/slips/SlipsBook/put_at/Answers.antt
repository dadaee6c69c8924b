use Rattle.std.proofs.Common.{◌≡◌, ◌-◌, vec_items, vec_len, arith, rules}
use Rattle.std.specs.List.{insert}
use Rattle.book_makes.specs.Piles.{slip_of}
use Rattle.std.proofs.lemmas.Int.{to_z-of_z}
use Rattle.book_makes.proofs.Heaps.{put_set, put_insert, put_full}
use Rattle.book_makes.proofs.Orders.{none_in_gap, inside_set, ordered_set, inside_insert, ordered_insert, single_in_order}
use Rattle.book_makes.proofs.slips.SlipsBook.put_at.Goals as goal

pub returns-then-len-self : goal.returns-then-len-self
returns-then-len-self c =
    let b = c.args.self.now in
    let none = none_in_gap (vec_items b.pile) c.args.spot c.in-Err.i c.in-Err.ensures.absent in
    let p = put_full b.lots (b.most - vec_len b.pile) (vec_items b.pile) c.args.spot c.args.value none (omega (arith, c.len.ensures)) in
    record { answer = p.0; after = p.1 }

pub invariant_of-self-in-Err : goal.invariant_of-self-in-Err
invariant_of-self-in-Err c =
    let b = c.args.self.now in
    let fits = c.ranges.value in
    let inside = inside_insert (vec_items b.pile) c.args.spot c.args.value c.in-Err.i c.in-Err.ensures.absent b.lots b.inside c.requires in
    let ordered = ordered_insert (vec_items b.pile) c.args.spot c.args.value c.in-Err.i c.in-Err.ensures.absent b.ordered in
    let one = single_in_order _ ordered in
    let is : vec_items c.insert-filled.new.self ≡ insert (vec_items b.pile) c.in-Err.i (slip_of c.args.spot c.args.value) = search rules in
    record {
      few = b.few;
      within = search rules;
      room = search rules;
      inside = rw is inside;
      ordered = rw is ordered;
      one = rw is one;
    }

pub returns-in-Ok : goal.returns-in-Ok
returns-in-Ok c =
    let b = c.args.self.now in
    let fits = c.ranges.value in
    let p = put_set b.lots (b.most - vec_len b.pile) (vec_items b.pile) c.args.spot c.args.value c.in-Ok.i c.in-Ok.ensures.found in
    record { answer = p.0; after = simp (c.fill_in-slip.ensures, to_z-of_z) p.1 }

pub returns-else-len-self : goal.returns-else-len-self
returns-else-len-self c =
    let b = c.args.self.now in
    let fits = c.ranges.value in
    let none = none_in_gap (vec_items b.pile) c.args.spot c.in-Err.i c.in-Err.ensures.absent in
    let p = put_insert b.lots (b.most - vec_len b.pile) (vec_items b.pile) c.args.spot c.args.value c.in-Err.i none (omega (arith, c.len.ensures)) in
    let fewer : b.most - vec_len c.insert-filled.new.self ≡ b.most - vec_len b.pile - 1 = search rules in
    let is : vec_items c.insert-filled.new.self ≡ insert (vec_items b.pile) c.in-Err.i (slip_of c.args.spot c.args.value) = search rules in
    record { answer = p.0; after = simp (is, fewer) p.1 }

pub invariant_of-self : goal.invariant_of-self
invariant_of-self c =
    let b = c.args.self.now in
    let fits = c.ranges.value in
    let inside = inside_set b.lots (vec_items b.pile) b.inside b.ordered c.args.spot c.requires c.args.value c.in-Ok.i c.in-Ok.ensures.found in
    let ordered = ordered_set b.lots (vec_items b.pile) b.inside b.ordered c.args.spot c.requires c.args.value c.in-Ok.i c.in-Ok.ensures.found in
    let one = single_in_order _ ordered in
    record {
      few = b.few;
      within = b.within;
      room = b.room;
      inside = simp (c.fill_in-slip.ensures, to_z-of_z) inside;
      ordered = simp (c.fill_in-slip.ensures, to_z-of_z) ordered;
      one = simp (c.fill_in-slip.ensures, to_z-of_z) one;
    }
