use Rattle.std.proofs.Common.{length, refl}
use Rattle.frame.proofs.Feeds.{cut_at_feed, cut_at_end}
use Rattle.frame.proofs.cuts.first_line.Goals as goal

pub returns-in-Some : goal.returns-in-Some
returns-in-Some c =
    let (within, feed, free) = c.in-Some.ensures in
    rw (c.split_at.ensures.front, c.split_at.ensures.back) (cut_at_feed c.args.input.now c.in-Some.feed within free feed)

pub returns-in-None : goal.returns-in-None
returns-in-None c =
    rw (c.split_at-in-None.ensures.front, c.split_at-in-None.ensures.back) (cut_at_end c.args.input.now (length c.args.input.now) refl c.in-None.ensures)
