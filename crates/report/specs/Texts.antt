-- The texts that a report is made of, in ASCII.
--   members_of    the members of a set between braces
--   kind_name_of  the kind of a line in a few words
--   draw_text, arcs_text, propose_text, fire_text, signal_text, answer_text   what a line of that kind says, with its fields
--   saying_of     what any line says
use Rattle.std.specs.Prelude.{ℕ, zero, suc, cond, List, [], ◌++◌, Some, None, codes, decimal, Option}
use Rattle.frame.specs.declared.kinds.Kind.{Kind}
use Rattle.frame.specs.declared.kinds.Kind.TheVariants as kind
use Rattle.frame.specs.Kinds.{name_of}
use Rattle.frame.specs.declared.requests.Request.{Request}
use Rattle.frame.specs.declared.requests.Request.TheVariants.{Draw, Arcs, Propose, Search, Certify, Fire, Signal, Halt, Resume, Home, Answer}
use Rattle.net.specs.Sets.{has}

-- the members below k, each after a space
unfoldable pub listed : ℕ → ℕ → List ℕ
listed zero s = []
listed (suc k) s = listed k s ++ cond (has s k) (codes " " ++ decimal k) []

abbrev pub members_of : ℕ → List ℕ
members_of s = codes "{" ++ (listed 64 s ++ codes " }")

abbrev pub kind_name_of : Option Kind → List ℕ
kind_name_of None = codes "no kind"
kind_name_of (Some kind) = name_of kind

abbrev pub draw_text : ℕ → ℕ → ℕ → List ℕ
draw_text places transitions marks = codes "draw: places " ++ (decimal places ++ (codes ", transitions " ++ (decimal transitions ++ (codes ", marks " ++ members_of marks))))

abbrev pub arcs_text : ℕ → ℕ → ℕ → List ℕ
arcs_text transition taken given = codes "arcs: transition " ++ (decimal transition ++ (codes ", taken " ++ (members_of taken ++ (codes ", given " ++ members_of given))))

abbrev pub propose_text : ℕ → List ℕ
propose_text set = codes "propose: " ++ members_of set

abbrev pub fire_text : ℕ → List ℕ
fire_text transition = codes "fire: transition " ++ decimal transition

abbrev pub signal_text : ℕ → ℕ → List ℕ
signal_text channel event = codes "signal: channel " ++ (decimal channel ++ (codes ", event " ++ decimal event))

abbrev pub answer_text : Option Kind → ℕ → ℕ → ℕ → List ℕ
answer_text to result detail lit = codes "answer to " ++ (kind_name_of to ++ (codes ": result " ++ (decimal result ++ (codes ", detail " ++ (decimal detail ++ (codes ", lit " ++ members_of lit))))))

abbrev pub saying_of : Request → List ℕ
saying_of (Draw places transitions marks) = draw_text places transitions marks
saying_of (Arcs transition taken given) = arcs_text transition taken given
saying_of (Propose set) = propose_text set
saying_of Search = kind_name_of (Some kind.Search)
saying_of Certify = kind_name_of (Some kind.Certify)
saying_of (Fire transition) = fire_text transition
saying_of (Signal channel event) = signal_text channel event
saying_of Halt = kind_name_of (Some kind.Halt)
saying_of Resume = kind_name_of (Some kind.Resume)
saying_of Home = kind_name_of (Some kind.Home)
saying_of (Answer to result detail lit) = answer_text to result detail lit
