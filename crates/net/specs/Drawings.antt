-- What drawing a net and giving it arcs come to.
--   without_arcs   the net of so many places and transitions, with these marked places and no arcs
--   with_arcs      the net after transition t was given the sets that it takes and gives
--   draw_outcome   the first refusal that applies to a drawing, or none
--   arcs_outcome   the first refusal that applies to arcs of a net, or none
--   Becomes        the net is the one asked for, or was refused and is as it was
use Rattle.std.specs.Prelude.{◌≡◌, ℕ, ◌^◌, cond, not, ◌||◌, Ok, Err, ◌==◌, nat_le, nat_lt}
use Rattle.refusal.specs.declared.Refusal.TheVariants.{TooManyPlaces, TooManyTransitions, MarkOutside, NoSuchTransition, ArcOutside, TakenAndGiven}
use Rattle.net.specs.Sets.{intersection}
use Rattle.net.specs.Nets.{PetriNet, drawn}
use Rattle.refusal.specs.Outcomes.{Outcome, refuse_if}
use Rattle.net.specs.declared.net.Net.{Net}

abbrev pub without_arcs : ℕ → ℕ → ℕ → PetriNet
without_arcs places transitions marks = record { places = places; transitions = transitions; marks = marks; takes = λ t. 0; gives = λ t. 0 }

abbrev pub with_arcs : PetriNet → ℕ → ℕ → ℕ → PetriNet
with_arcs n t taken given = record {
  places = n.places;
  transitions = n.transitions;
  marks = n.marks;
  takes = λ u. cond (u == t) taken (n.takes u);
  gives = λ u. cond (u == t) given (n.gives u);
}

-- more than 64 places, more than 64 transitions, a marked place that the net has not
abbrev pub draw_outcome : ℕ → ℕ → ℕ → Outcome
draw_outcome places transitions marks =
    refuse_if (nat_lt 64 places) TooManyPlaces (
    refuse_if (nat_lt 64 transitions) TooManyTransitions (
    refuse_if (nat_le (2 ^ places) marks) MarkOutside (
    Ok tt)))

-- no such transition, an arc to a place that the net has not, a place that is both taken and given
abbrev pub arcs_outcome : PetriNet → ℕ → ℕ → ℕ → Outcome
arcs_outcome n t taken given =
    refuse_if (nat_le n.transitions t) NoSuchTransition (
    refuse_if (nat_le (2 ^ n.places) taken || nat_le (2 ^ n.places) given) ArcOutside (
    refuse_if (not (intersection taken given == 0)) TakenAndGiven (
    Ok tt)))

abbrev pub Becomes : Net → PetriNet → Outcome → Net → Type 0
Becomes old asked (Ok _) new = drawn new ≡ asked
Becomes old asked (Err _) new = new ≡ old
