-- The usage text of the lab.
use Rattle.std.specs.Prelude.{ℕ, List, ◌++◌, codes}

-- the lab's usage text
unfoldable pub lab_usage_text : List ℕ
lab_usage_text =
    codes "usage: lab why FILE [STARTS] [--of NAME]\n"
    ++ (codes "       lab seen FILE STARTS --observer L [--env flat|part|part2] [--machine M] [--budget T] [--refused]\n"
    ++ (codes "       lab timeline FILE STARTS [--env flat|part|part2] [--machine M] [--budget T] [--observer L] [--refused]\n"
    ++ (codes "       lab bound FILE STARTS --observer L [--env flat|part|part2] [--machine M] [--budget T]\n"
    ++ (codes "       lab steady FILE --observer L [--parts P] [--constant NAMES] [--whole]\n"
    ++ (codes "       lab leak FILE STARTS --observer L [--env flat|part|part2] [--machine M] [--budget T] [--refused]\n"
    ++ (codes "       lab tune FILE STARTS --observer L [--env flat|part|part2] [--machine M] [--budget T] [--of #K] [--bits B]\n"
    ++ (codes "       lab check FILE --json\n"
    ++ (codes "       lab help [COMMAND]\n"
    ++ codes "       lab version\n"))))))))
