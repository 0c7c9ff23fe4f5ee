use Rattle.std.proofs.Common.{[], ◌∷◌, length, is_ok, Ok, Err, sym, ap, arith, rules, length-append}
use Rattle.refusal.specs.declared.Refusal.TheVariants.{NoBarePlace}
use Rattle.cover.specs.Sheets.{sheet_net, sheet_strands}
use Rattle.cover.proofs.Bares.{new_cases, room_for_one, room_after, bare_more, checked_more}
use Rattle.cover.proofs.sheet.Sheet.propose.Goals as goal

pub returns-then-fresh-eq0-clause-strand : goal.returns-then-fresh-eq0-clause-strand
returns-then-fresh-eq0-clause-strand c = new_cases (sheet_net c.args.self.now) (sheet_strands c.args.self.now) c.args.set (Err NoBarePlace) (search rules)

pub push-requires : goal.push-requires
push-requires c =
    let old = c.args.self.now in
    let less = room_for_one (length old.strands.items) old.net.places old.bare c.args.set c.if-fresh-eq0.false old.room in
    let most = old.net.placed in
    omega arith

pub invariant_of-self : goal.invariant_of-self
invariant_of-self c =
    let old = c.args.self.now in
    let s = c.args.set in
    rw c.push.ensures.items (record {
      checked = checked_more (sheet_net old) (sheet_strands old) s old.checked (sym (ap is_ok c.in_ok-check.ensures.answer));
      bared = bare_more (sheet_net old) (sheet_strands old) old.bare s old.bared;
      room = rw (length-append (sheet_strands old) (s ∷ [])) (room_after (length old.strands.items) old.net.places old.bare s c.if-fresh-eq0.false old.room);
    })

pub returns-clause-strand : goal.returns-clause-strand
returns-clause-strand c = new_cases (sheet_net c.args.self.now) (sheet_strands c.args.self.now) c.args.set (Ok tt) (search rules)
