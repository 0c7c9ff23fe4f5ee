use Rattle.std.proofs.Common.{subst, sym}
use Rattle.net.specs.Counting.{Safe, ContactFree}
use Rattle.net.specs.Strands.{Cover}
use Rattle.cover.specs.Certificates.{certified_strands}
use Rattle.cover.proofs.Covers.{certified_cover, certified_safe, certified_contact_free}
use Rattle.cover.proofs.certified.Certified.net.Goals as goal

pub returns-clause-covered : goal.returns-clause-covered
returns-clause-covered c = subst (λ n. Cover n (certified_strands c.args.self.now)) (sym c.net.ensures) (certified_cover c.args.self.now)

pub returns-clause-safe : goal.returns-clause-safe
returns-clause-safe c = subst Safe (sym c.net.ensures) (certified_safe c.args.self.now)

pub returns-clause-free : goal.returns-clause-free
returns-clause-free c = subst ContactFree (sym c.net.ensures) (certified_contact_free c.args.self.now)
