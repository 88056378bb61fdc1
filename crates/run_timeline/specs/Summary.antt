-- How long the bodies of a mitigate's mitigations took, and how many of them missed.
use Rattle.std.specs.Prelude.{◌≡◌, ◌≤◌, ◌<◌, ℕ, ◌+◌, List, [], ◌∷◌, ◌++◌, All, length, min, max, cond, eqb, ltb, ◌&&◌, codes, slice_index_or}
use Rattle.text_base.specs.declared.pos.Pos.{Pos}
use Rattle.run_timeline.specs.declared.moment.Moment.{Moment}
use Rattle.run_timeline.specs.declared.moment.Moment.TheVariants.{Assigned, Begins, Ends}
use Rattle.run_timeline.specs.declared.tally.Tally.{Tally}
use Rattle.run_timeline.specs.Text.{mark_text, number_text}

-- the lengths of the bodies of the mitigations with a mark that ended
abbrev pub works : ℕ → List Moment → List ℕ
works k [] = []
works k (Assigned x n c ∷ ms) = works k ms
works k (Begins j n d m c ∷ ms) = works k ms
works k (Ends j w d m n c ∷ ms) = cond (eqb j k) (w ∷ works k ms) (works k ms)

-- how many of them missed: the count of their level rose
abbrev pub misses : ℕ → List Moment → ℕ
misses k [] = 0
misses k (Assigned x n c ∷ ms) = misses k ms
misses k (Begins j n d m c ∷ ms) = misses k ms
misses k (Ends j w d m n c ∷ ms) = cond (eqb j k && ltb m n) 1 0 + misses k ms

-- the shortest and the longest of some lengths, 0 where there is none
abbrev pub least_of : ℕ → List ℕ → ℕ
least_of w [] = w
least_of w (u ∷ us) = least_of (min w u) us

abbrev pub shortest : List ℕ → ℕ
shortest [] = 0
shortest (w ∷ ws) = least_of w ws

abbrev pub longest : List ℕ → ℕ
longest [] = 0
longest (w ∷ ws) = max w (longest ws)

-- the least first prediction that no body reaches
abbrev pub least_of_tally : Tally → ℕ
least_of_tally t = cond (eqb t.ended 0) 1 (t.longest + 1)

-- what is told of the mitigations with a mark
abbrev pub tally_of : ℕ → List Moment → Tally
tally_of k ms = record { ended = length (works k ms); shortest = shortest (works k ms); longest = longest (works k ms); missed = misses k ms }

-- the tallies of the mitigates by their marks
pub record AreTallies (ms : List Moment) (ts : List Tally) : Type 0 where
  pub each : (k : ℕ) (d : Tally) → k < length ts → slice_index_or ts k d ≡ tally_of k ms

-- `mitigate #K P ended E`, and then ` shortest S longest X missed Z least Y`
abbrev pub mitigate_text : List Pos → ℕ → ℕ → List ℕ
mitigate_text ps k n = codes "mitigate" ++ (mark_text ps k ++ number_text (codes " ended ") n)

abbrev pub tally_text : Tally → List ℕ
tally_text t =
    number_text (codes " shortest ") t.shortest
    ++ (number_text (codes " longest ") t.longest
    ++ (number_text (codes " missed ") t.missed ++ (number_text (codes " least ") (least_of_tally t) ++ codes "\n")))

abbrev pub summary_from : List Pos → ℕ → List Tally → List ℕ
summary_from ps k [] = []
summary_from ps k (t ∷ ts) = (mitigate_text ps k t.ended ++ tally_text t) ++ summary_from ps (k + 1) ts

-- a line for each mitigate, in order of the text
abbrev pub summary_text : List Pos → List Tally → List ℕ
summary_text ps ts = summary_from ps 0 ts

-- the least prediction, of at least 1, that is above each length
pub record IsLeastFirst (ws : List ℕ) (y : ℕ) : Type 0 where
  pub some : 0 < y
  pub above : All (λ w. w < y) ws
  pub least : (z : ℕ) → 0 < z → All (λ w. w < z) ws → y ≤ z

-- the told one is it
abbrev pub LeastFirsts : Type 0
LeastFirsts = (k : ℕ) (ms : List Moment) → IsLeastFirst (works k ms) (least_of_tally (tally_of k ms))
