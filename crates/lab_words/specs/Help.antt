-- The texts of `lab help` and `lab version`.
use Rattle.std.specs.Prelude.{◌++◌, Option, Some, None, codes}
use Rattle.clap.specs.Words.{Text}
use Rattle.lab_words.specs.declared.verbs.Verb.{Verb}
use Rattle.lab_words.specs.declared.verbs.Verb.TheVariants.{Why, Seen, Timeline, Bound, Steady, Leak, Tune, Check, Help, Version}

-- a line for each command
unfoldable pub commands_text : Text
commands_text =
    codes "lab why       reasons for a refusal or a label\n"
    ++ (codes "lab seen      what each run shows\n"
    ++ (codes "lab timeline  when mitigations begin and end\n"
    ++ (codes "lab bound     an audit, the sharp count\n"
    ++ (codes "lab steady    whether code is constant in time\n"
    ++ (codes "lab leak      what these runs tell, exactly\n"
    ++ (codes "lab tune      which first predictions are best\n"
    ++ (codes "lab check     what is found, as JSON\n"
    ++ (codes "lab help      these lines, or the form of one command\n"
    ++ codes "lab version   the number of this version\n"))))))))

-- The form of each command, what it is for, and a line for each of its words and options.
unfoldable pub why_help : Text
why_help =
    codes "usage: lab why FILE [STARTS] [--of NAME]\n"
    ++ (codes "       lab why FILE STARTS --observer L [--env flat|part|part2] [--machine M] [--budget T]\n"
    ++ (codes "reasons for a refusal or a label\n"
    ++ (codes "  FILE        program\n"
    ++ (codes "  STARTS      starts\n"
    ++ (codes "  --of        name: of one name\n"
    ++ (codes "  --observer  label: who sees\n"
    ++ (codes "  --env       environment: where costs come from; part where it is left out\n"
    ++ (codes "  --machine   machine file: a machine in place of an environment\n"
    ++ codes "  --budget    cycles: the last cycle; 1000000 where it is left out\n"))))))))

unfoldable pub seen_help : Text
seen_help =
    codes "usage: lab seen FILE STARTS --observer L [--env flat|part|part2] [--machine M] [--budget T] [--refused]\n"
    ++ (codes "what each run shows\n"
    ++ (codes "  FILE        program\n"
    ++ (codes "  STARTS      starts\n"
    ++ (codes "  --observer  label: who sees\n"
    ++ (codes "  --env       environment: where costs come from; part where it is left out\n"
    ++ (codes "  --machine   machine file: a machine in place of an environment\n"
    ++ (codes "  --budget    cycles: the last cycle; 1000000 where it is left out\n"
    ++ codes "  --refused   runs a refused program too\n")))))))

unfoldable pub timeline_help : Text
timeline_help =
    codes "usage: lab timeline FILE STARTS [--env flat|part|part2] [--machine M] [--budget T] [--observer L] [--refused]\n"
    ++ (codes "when mitigations begin and end\n"
    ++ (codes "  FILE        program\n"
    ++ (codes "  STARTS      starts\n"
    ++ (codes "  --env       environment: where costs come from; part where it is left out\n"
    ++ (codes "  --machine   machine file: a machine in place of an environment\n"
    ++ (codes "  --budget    cycles: the last cycle; 1000000 where it is left out\n"
    ++ (codes "  --observer  label: who sees; all assignments where it is left out\n"
    ++ codes "  --refused   runs a refused program too\n")))))))

unfoldable pub bound_help : Text
bound_help =
    codes "usage: lab bound FILE STARTS --observer L [--env flat|part|part2] [--machine M] [--budget T]\n"
    ++ (codes "an audit, the sharp count\n"
    ++ (codes "  FILE        program\n"
    ++ (codes "  STARTS      starts\n"
    ++ (codes "  --observer  label: who sees\n"
    ++ (codes "  --env       environment: where costs come from; part where it is left out\n"
    ++ (codes "  --machine   machine file: a machine in place of an environment\n"
    ++ codes "  --budget    cycles: the last cycle; 1000000 where it is left out\n"))))))

unfoldable pub steady_help : Text
steady_help =
    codes "usage: lab steady FILE --observer L [--parts P] [--constant NAMES] [--whole]\n"
    ++ (codes "whether code is constant in time\n"
    ++ (codes "  FILE        program\n"
    ++ (codes "  --observer  label: who sees\n"
    ++ (codes "  --parts     label: what environments agree in; the observer where it is left out\n"
    ++ (codes "  --constant  names: operators of constant cost; the costs of the machine where it is left out\n"
    ++ codes "  --whole     the end too\n")))))

unfoldable pub leak_help : Text
leak_help =
    codes "usage: lab leak FILE STARTS --observer L [--env flat|part|part2] [--machine M] [--budget T] [--refused]\n"
    ++ (codes "what these runs tell, exactly\n"
    ++ (codes "  FILE        program\n"
    ++ (codes "  STARTS      starts\n"
    ++ (codes "  --observer  label: who sees\n"
    ++ (codes "  --env       environment: where costs come from; part where it is left out\n"
    ++ (codes "  --machine   machine file: a machine in place of an environment\n"
    ++ (codes "  --budget    cycles: the last cycle; 1000000 where it is left out\n"
    ++ codes "  --refused   runs a refused program too\n")))))))

unfoldable pub tune_help : Text
tune_help =
    codes "usage: lab tune FILE STARTS --observer L [--env flat|part|part2] [--machine M] [--budget T] [--of #K] [--bits B]\n"
    ++ (codes "which first predictions are best\n"
    ++ (codes "  FILE        program\n"
    ++ (codes "  STARTS      starts\n"
    ++ (codes "  --observer  label: who sees\n"
    ++ (codes "  --env       environment: where costs come from; part where it is left out\n"
    ++ (codes "  --machine   machine file: a machine in place of an environment\n"
    ++ (codes "  --budget    cycles: the last cycle; 1000000 where it is left out\n"
    ++ (codes "  --of        mark: of one mitigate; #0 where it is left out\n"
    ++ codes "  --bits      bits: the cheapest one that tells no more\n"))))))))

unfoldable pub check_help : Text
check_help =
    codes "usage: lab check FILE --json\n"
    ++ (codes "what is found, as JSON\n"
    ++ (codes "  FILE        program\n"
    ++ codes "  --json      one object\n"))

unfoldable pub help_help : Text
help_help =
    codes "usage: lab help [COMMAND]\n"
    ++ (codes "these lines, or the form of one command\n"
    ++ codes "  COMMAND     command\n")

unfoldable pub version_help : Text
version_help =
    codes "usage: lab version\n"
    ++ codes "the number of this version\n"

abbrev pub command_text : Verb → Text
command_text Why = why_help
command_text Seen = seen_help
command_text Timeline = timeline_help
command_text Bound = bound_help
command_text Steady = steady_help
command_text Leak = leak_help
command_text Tune = tune_help
command_text Check = check_help
command_text Help = help_help
command_text Version = version_help

-- of one command, or of all
abbrev pub help_text : Option Verb → Text
help_text None = commands_text
help_text (Some verb) = command_text verb

-- the name of the program and the number of its version
unfoldable pub version_text : Text
version_text = codes "lab 0.1.0\n"
