-- Thin sets of places.
use Rattle.std.proofs.Common.{ℕ, ◌^◌, arith}
use Rattle.net.specs.Sets.{Subset}
use Rattle.net.specs.Nets.{PetriNet}
use Rattle.net.specs.Strands.{Thin}
use Rattle.net.proofs.Meets.{size_intersection_subset, slim_single}

-- what lies inside a thin set is thin
pub thin_subset : (n : PetriNet) (r s : ℕ) → Subset r s → Thin n s → Thin n r
thin_subset n r s f h =
    let marks = size_intersection_subset n.marks r s f in
    let mark = h.one_mark in
    record {
      one_mark = omega arith;
      at_each = λ t l.
          let taken = size_intersection_subset (n.takes t) r s f in
          let given = size_intersection_subset (n.gives t) r s f in
          let at = h.at_each t l in
          record { takes_one = omega arith; gives_one = omega arith };
    }

-- a single place is a thin set
pub thin_single : (n : PetriNet) (p : ℕ) → Thin n (2 ^ p)
thin_single n p = record {
  one_mark = slim_single n.marks p;
  at_each = λ t l. record { takes_one = slim_single (n.takes t) p; gives_one = slim_single (n.gives t) p };
}
