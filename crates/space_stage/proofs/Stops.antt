-- What stops the stage.
use Rattle.std.proofs.Common.{◌⊎◌, ℕ, List, Option, inl, inr, refl}
use Rattle.mit_syntax.specs.Program.{Syntax}
use Rattle.tool_texts.specs.declared.status.Status.{Status}
use Rattle.tool_texts.specs.declared.status.Status.TheVariants as status
use Rattle.tool_texts.specs.declared.stop.Stop.{Stop}
use Rattle.tool_texts.specs.Ends.{IsStop, status_of, stop_text}
use Rattle.tool_texts.specs.Texts.{starts}
use Rattle.tool_texts.proofs.EndLemmas.{broke_map}
use Rattle.tool_stages.proofs.StageStops.{FileBreaks}
use Rattle.space_stage.specs.Given.{GivenStops, HasListFault, HasSpaceFault}

abbrev pub Faulty : Option (Option (List ℕ)) → Syntax → List ℕ → Type 0
Faulty c p t = HasListFault c p t ⊎ HasSpaceFault c p t

pub given_breaks : (R : Type 0) (c : Option (Option (List ℕ))) (p : Syntax) (s : Status) (t : List ℕ) → GivenStops R c p s t
    → FileBreaks R starts c (Faulty c p) status.Starts s t
given_breaks R c p status.Done t h = absurd h
given_breaks R c p status.Refused t h = absurd h
given_breaks R c p status.Syntax t h = absurd h
given_breaks R c p status.Starts t h = inr (inr (refl, h))
given_breaks R c p status.Usage t h = absurd h
given_breaks R c p status.ReadFault t h = inl (refl, h.0, h.1)
given_breaks R c p status.WriteFault t h = absurd h
given_breaks R c p status.TooLong t h = inr (inl (refl, h.0, h.1))
given_breaks R c p status.Budget t h = absurd h
given_breaks R c p status.Disagree t h = absurd h
given_breaks R c p status.Unfinished t h = absurd h
given_breaks R c p status.Memory t h = absurd h
given_breaks R c p status.Rejected t h = absurd h

pub given_rise : (R R' : Type 0) (c : Option (Option (List ℕ))) (p : Syntax) (s : Status) (t : List ℕ) → (R → R') → GivenStops R c p s t → GivenStops R' c p s t
given_rise R R' c p status.Done t f h = h
given_rise R R' c p status.Refused t f h = h
given_rise R R' c p status.Syntax t f h = h
given_rise R R' c p status.Starts t f h = h
given_rise R R' c p status.Usage t f h = h
given_rise R R' c p status.ReadFault t f h = (f h.0, h.1)
given_rise R R' c p status.WriteFault t f h = h
given_rise R R' c p status.TooLong t f h = h
given_rise R R' c p status.Budget t f h = h
given_rise R R' c p status.Disagree t f h = h
given_rise R R' c p status.Unfinished t f h = h
given_rise R R' c p status.Memory t f h = h
given_rise R R' c p status.Rejected t f h = h

-- where a file was read, its stops are those of its bytes
pub read_stops : (R : Type 0) (c : Option (Option (List ℕ))) (p : Syntax) (e : Stop) → IsStop (GivenStops ⊥ c p) e → IsStop (GivenStops R c p) e
read_stops R c p e h =
    broke_map (GivenStops ⊥ c p) (GivenStops R c p) (status_of e) (stop_text e) (given_rise ⊥ R c p (status_of e) (stop_text e) (λ n. absurd n)) h
