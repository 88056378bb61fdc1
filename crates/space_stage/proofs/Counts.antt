-- How many starts a list has that is given.
use Rattle.std.proofs.Common.{◌≡◌, ℕ, List, Bool, true, false, cond, codes, Option, Some, None, Ok, Err}
use Rattle.toml.specs.Data.{Members, get_member}
use Rattle.mit_syntax.specs.Program.{Syntax}
use Rattle.start_file.specs.declared.fault.StartFault.TheVariants.{UnknownKey, NotNumber}
use Rattle.start_file.specs.declared.version.Version.TheVariants.{Two}
use Rattle.start_file.specs.Tables.{members_in}
use Rattle.start_file.specs.Values.{memory_passes}
use Rattle.start_file.specs.Starts.{StartValue, runs_of, starts_in}
use Rattle.start_file.specs.Shared.{filled_runs, list_keys_pass, shared_in, has_shared, list_in}
use Rattle.tool_stages.proofs.StartLemmas.{IsCounted, then_part, some_runs, some_starts}
use Rattle.space_stage.specs.Given.{ListIs}

some_shared : (p : Syntax) (ms : Members) (ss : List StartValue) → Ok ss ≡ shared_in p ms → IsCounted ss
some_shared p ms ss e =
    let shared = get_member (codes "memory") ms in
    let runs = filled_runs (members_in shared) (get_member (codes "run") ms) in
    let all = runs_of p Two runs in
    let known = then_part (list_keys_pass p ms) ss (cond (memory_passes p.declarations shared) all (Err (NotNumber 0))) (UnknownKey 0) e in
    some_runs p Two runs ss (then_part (memory_passes p.declarations shared) ss all (NotNumber 0) known)

some_either : (p : Syntax) (b : Bool) (ms : Members) (ss : List StartValue) → Ok ss ≡ cond b (shared_in p ms) (starts_in p (Some ms)) → IsCounted ss
some_either p true ms ss e = some_shared p ms ss e
some_either p false ms ss e = some_starts p (Some ms) ss e

some_list : (p : Syntax) (d : Option Members) (ss : List StartValue) → Ok ss ≡ list_in p d → IsCounted ss
some_list p None ss e = absurd cc
some_list p (Some ms) ss e = some_either p (has_shared ms) ms ss e

pub count_list : (content : Option (Option (List ℕ))) (p : Syntax) (ss : List StartValue) → ListIs content p ss → IsCounted ss
count_list content p ss h = some_list p h.3.0 ss h.3.2
