-- A program as a whole.
use Rattle.std.proofs.Common.{◌≡◌, ◌≤◌, ◌<◌, ◌^◌, refl, ap, ◌∙◌, sym, subst, ℕ, List, [], ◌∷◌, length, Bool, true, false, cond, Option, Some, None, inl, inr}
use Rattle.std.proofs.Common.{arith}
use Rattle.std.specs.Prelude.{map, ltb, nat_lt, ◌||◌, ◌⊎◌, ◌↔◌, All}
use Rattle.std.proofs.lemmas.Bool.{ltb-false, le-ltb}
use Rattle.std.proofs.lemmas.List.Elements.{All-cons}
use Rattle.label_lattice.specs.declared.label.Label.{Label}
use Rattle.label_lattice.specs.Lattice.{Flows}
use Rattle.label_lattice.specs.Order.{Order, IsOrder, AllDiffer, lattice_of}
use Rattle.label_lattice.specs.Chains.{AreBelow, IsBuilt, Chain}
use Rattle.mit_syntax.specs.declared.ast.Command.{Command}
use Rattle.mit_syntax.specs.Declarations.{Declaration, AreFew}
use Rattle.mit_syntax.specs.Plan.{list_plan, count}
use Rattle.mit_syntax.specs.Program.{Syntax, syntax}
use Rattle.mit_syntax.specs.Limits.{AreSmall}
use Rattle.mit_syntax.specs.Valid.{IsValid, IsBelow, AreSome, AreKnown, AreNumbered}
use Rattle.mit_parser.specs.declared.counts.Counts.{Counts}
use Rattle.mit_parser.specs.declared.fault.ParseFault.{ParseFault}
use Rattle.mit_parser.specs.declared.fault.ParseFault.TheVariants.{TooMany}
use Rattle.mit_parser.specs.Words.{Told, the_end, AreProper}
use Rattle.mit_parser.specs.Tree.{ProgramTree, no_header, header_of, front_header, front_declarations, front_commands}
use Rattle.mit_parser.specs.Counting.{count as count_word, is_over, nothing_yet}
use Rattle.mit_parser.specs.Limits.{CommandsWithin}
use Rattle.mit_parser.specs.State.{State, begin}
use Rattle.mit_parser.specs.Scope.{scope, labels_in, kept}
use Rattle.mit_parser.specs.Meaning.{plan_commands}
use Rattle.mit_parser.specs.Faults.{header_labels, header_numbers, header_pairs, labelled, add_labels, AreNumbersBelow, header_fault, declaring, declare_all}
use Rattle.mit_parser.specs.Faults.{declared_by, many_fault, body_fault, note_commands, IsLatticeFault, IsNameFault}
use Rattle.mit_parser.specs.Machine.{want, declarations, commands, verdict}
use Rattle.mit_parser.specs.Reads.{OnlyEnd, IsCommands}
use Rattle.mit_parser.specs.Headers.{Makes, IsHeader, AreVariables}
use Rattle.mit_parser.specs.Spells.{Spells, Resolves, IsProgram, Refuses}
use Rattle.mit_parser.specs.Assembly.{AreParts, IsAssembled}
use Rattle.mit_parser.proofs.Trees.{start}
use Rattle.mit_parser.proofs.Theorems.{all_fit}
use Rattle.mit_parser.proofs.FittingCommands.{tree_within}
use Rattle.mit_parser.proofs.Known.{KnownList, known_commands, some_commands, none_commands, kept_split}
use Rattle.mit_parser.proofs.Small.{small_commands, numbered_commands, count_commands}
use Rattle.mit_parser.proofs.Numbered.{as_labels_below, numbers_below}
use Rattle.mit_parser.proofs.Heads.{labels_some}
use Rattle.mit_parser.proofs.Ready.{AreGood, GoodAll, all_good, names_all, labels_all, arrays_all, proper_header}
use Rattle.mit_parser.proofs.NamedWhole.{resolves_of}
use Rattle.mit_parser.proofs.Noted.{IsOfNames, misnamed, kept_of, of_commands, keep_commands, keep_declared, of_declared, many_of, of_header, lattice_of_names}

-- the end passes no limit
low_end : (c : Counts) → c.depth ≤ 100 → is_over (count_word c the_end) ≡ false
low_end c h = by (nat_lt 100 c.depth) (le-ltb 100 c.depth h)
  where
    by : (b : Bool) → b ≡ false → (b || false) ≡ false
    by true e = e
    by false e = refl

-- the machine after the header and the declarations
pub to_commands : (words : List Told) (lattice : Option Order) (pairs : List (Label × Label)) (variables : List Declaration) (s1 s2 : State)
    → IsHeader lattice pairs (begin words) s1
    → AreVariables (labels_in lattice) variables s1 s2 → verdict start nothing_yet words ≡ verdict (commands ∷ want the_end ∷ []) s2.counts s2.words
to_commands words lattice pairs variables s1 s2 h v =
    h.goes (declarations ∷ commands ∷ want the_end ∷ []) ∙ v.read.taken.goes (commands ∷ want the_end ∷ [])
    ∙ ap (λ z. verdict (commands ∷ want the_end ∷ []) z.counts z.words) (sym v.tested)

module _ (words : List Told) (lattice : Option Order) (pairs : List (Label × Label)) (variables : List Declaration) (body : List Command) (s1 s2 s3 : State)
    (h : IsHeader lattice pairs (begin words) s1) (v : AreVariables (labels_in lattice) variables s1 s2)
    (k : IsCommands (scope (labels_in lattice) variables) s2 s3 (list_plan body)) where
  abbrev pub tree : ProgramTree
  tree = record { header = h.tree; declarations = v.read.taken.tree; commands = k.tree }

  pub goes_end : verdict start nothing_yet words ≡ verdict (want the_end ∷ []) s3.counts s3.words
  goes_end = to_commands words lattice pairs variables s1 s2 h v ∙ k.goes (want the_end ∷ [])

  module _ (o : OnlyEnd s3.words) (low : s3.counts.depth ≤ 100) where
    same_words : v.mid.words ≡ s2.words
    same_words = sym (ap (λ z. z.words) v.tested)

    pub spelled : Spells tree words
    spelled = (
      o.0,
      h.spelled ∙ ap (front_header h.tree) (v.read.taken.spelled
          ∙ ap (front_declarations v.read.taken.tree) (same_words ∙ k.spelled ∙ ap (front_commands k.tree) o.1)),
    )

    pub within : CommandsWithin 0 tree.commands
    within = tree_within words tree spelled (all_fit words s3 goes_end o (low_end s3.counts low))

    within_commands : CommandsWithin 0 k.tree
    within_commands = within

    last_fault : s3.fault ≡ note_commands (scope (labels_in lattice) variables) k.tree (kept v.mid.fault (many_fault v.list))
    last_fault = k.notes ∙ ap (note_commands (scope (labels_in lattice) variables) k.tree) (ap (λ z. z.fault) v.tested)

    -- where the header has a fault
    module _ (f : ParseFault) (e : s1.fault ≡ Some f) where
      kept_fault : s3.fault ≡ Some f
      kept_fault =
          let d : v.mid.fault ≡ Some f = ap (λ s. s.fault) (v.read.taken.means ∙ ap (λ u. declare_all (labels_in lattice) v.read.taken.tree (declaring [] u)) e
          ∙ keep_declared (labels_in lattice) v.read.taken.tree [] f) in
          last_fault ∙ ap (λ u. note_commands (scope (labels_in lattice) variables) k.tree (kept u (many_fault v.list))) d
          ∙ keep_commands (scope (labels_in lattice) variables) f k.tree

    -- what is known where there is no fault of the header
    pub record HeaderFine : Type 0 where
      pub order : Order
      pub there : lattice ≡ Some order
      pub none : header_fault h.tree ≡ None
      pub built : IsBuilt (header_labels h.tree).names (header_pairs h.tree) order
      pub kept_pairs : pairs ≡ header_pairs h.tree
      pub clean : s1.fault ≡ None

    -- the header has a fault, or none
    data HeaderCase : Type 0 where
      faulty : (f : ParseFault) → s1.fault ≡ Some f → (header_fault h.tree ≡ Some f)
          ⊎ ((header_fault h.tree ≡ None) × IsLatticeFault (header_labels h.tree).names (header_pairs h.tree) f) → HeaderCase
      fine : HeaderFine → HeaderCase

    header_case : HeaderCase
    header_case = by lattice s1.fault refl refl h.means
      where
        by : (l : Option Order) (u : Option ParseFault) → lattice ≡ l → s1.fault ≡ u
            → Makes (header_labels h.tree).names (header_pairs h.tree) (header_fault h.tree) l pairs u → HeaderCase
        by (Some q) None el eu m = fine (record { order = q; there = el; none = m.0; built = m.1; kept_pairs = m.2; clean = eu })
        by (Some q) (Some f) el eu m = absurd m
        by None None el eu m = absurd m
        by None (Some f) el eu m = faulty f eu m

    misnamed_with : (f : ParseFault) → IsOfNames (Some f) → IsNameFault tree f → Refuses words f
    misnamed_with f n e = misnamed words f n (record { tree = tree; spells = spelled; within = within; first = e })

    module _ (g : HeaderFine) where
      named : labels_in lattice ≡ (header_labels h.tree).names
      named = ap labels_in g.there ∙ g.built.named

      listed : declaring v.list v.mid.fault ≡ declared_by (header_labels h.tree).names v.read.taken.tree
      listed = v.read.taken.means ∙ ap (λ u. declare_all (labels_in lattice) v.read.taken.tree (declaring [] u)) g.clean
          ∙ ap (λ l. declare_all l v.read.taken.tree (declaring [] None)) named

      few_listed : many_fault v.list ≡ None → variables ≡ v.list
      few_listed e = by (ltb 1024 (length v.list)) refl
        where
          by : (b : Bool) → ltb 1024 (length v.list) ≡ b → variables ≡ v.list
          by true q = let z = sym (ap (λ b. cond b (Some (TooMany (length v.list))) None) q) ∙ e in cc
          by false q = v.given (ltb-false 1024 (length v.list) q)

      same_scope : (w : Option ParseFault) → kept v.mid.fault (many_fault v.list) ≡ w
          → note_commands (scope (labels_in lattice) variables) k.tree w ≡ note_commands (scope (header_labels h.tree).names v.list) k.tree w
      same_scope None e =
          ap (λ d. note_commands (scope (labels_in lattice) d) k.tree None) (few_listed (kept_split v.mid.fault (many_fault v.list) e).1)
          ∙ ap (λ l. note_commands (scope l v.list) k.tree None) named
      same_scope (Some f) e = keep_commands (scope (labels_in lattice) variables) f k.tree
          ∙ sym (keep_commands (scope (header_labels h.tree).names v.list) f k.tree)

      pub body_is : s3.fault ≡ body_fault tree
      body_is =
          last_fault ∙ same_scope (kept v.mid.fault (many_fault v.list)) refl
          ∙ ap (λ z. note_commands (scope (header_labels h.tree).names z.list) k.tree (kept z.fault (many_fault z.list))) listed

      clean_names : IsOfNames v.mid.fault
      clean_names =
          subst IsOfNames (sym (ap (λ z. z.fault) (v.read.taken.means ∙ ap (λ u. declare_all (labels_in lattice) v.read.taken.tree (declaring [] u)) g.clean)))
          (of_declared (labels_in lattice) v.read.taken.tree (declaring [] None) tt)

      last_of_names : IsOfNames s3.fault
      last_of_names =
          subst IsOfNames (sym last_fault) (of_commands (scope (labels_in lattice) variables) k.tree (kept v.mid.fault (many_fault v.list))
          (kept_of v.mid.fault (many_fault v.list) clean_names (many_of v.list)))

    -- the first fault of names is answered
    pub refuses_names : (f : ParseFault) → s3.fault ≡ Some f → Refuses words f
    refuses_names f e = by header_case
      where
        by : HeaderCase → Refuses words f
        by (faulty q u c) =
            let same : q ≡ f = let z : Some q ≡ Some f = sym (kept_fault q u) ∙ e in cc in
            subst (Refuses words) same (of_case c)
          where
            of_case : (header_fault h.tree ≡ Some q) ⊎ ((header_fault h.tree ≡ None) × IsLatticeFault (header_labels h.tree).names (header_pairs h.tree) q)
                → Refuses words q
            of_case (inl x) = misnamed_with q (subst IsOfNames x (of_header h.tree)) (inl x)
            of_case (inr x) = misnamed_with q (lattice_of_names (header_labels h.tree).names (header_pairs h.tree) q x.1) (inr (inl x))
        by (fine g) = misnamed_with f (subst IsOfNames e (last_of_names g)) (inr (inr (g.none, g.built.sound, sym (body_is g) ∙ e)))

    -- the numbers of a header's pairs are those of labels
    header_below : (t : _) → 0 < length (header_labels t).names → AreNumbersBelow (length (header_labels t).names) (header_numbers t)
    header_below no_header some = All-cons (λ (n : ℕ × ℕ). (n.0 < 2) × (n.1 < 2)) (0, 1) [] (omega arith, omega arith) (λ k d l. absurd (omega (arith, l)))
    header_below (header_of p w q m u x) some = numbers_below (add_labels m (labelled (w ∷ []) None)).names some x

    -- where there is no fault of names
    module _ (clean : s3.fault ≡ None) where
      pub header_fine : HeaderFine
      header_fine = by header_case
        where
          by : HeaderCase → HeaderFine
          by (faulty q u c) = let z : Some q ≡ None = sym (kept_fault q u) ∙ clean in cc
          by (fine g) = g

      no_body : body_fault tree ≡ None
      no_body = sym (body_is header_fine) ∙ clean

      module _ (q : Order) (there : lattice ≡ Some q) where
        same_order : header_fine.order ≡ q
        same_order = let z : Some header_fine.order ≡ Some q = sym header_fine.there ∙ there in cc

        built : IsBuilt (header_labels h.tree).names (header_pairs h.tree) q
        built = subst (IsBuilt (header_labels h.tree).names (header_pairs h.tree)) same_order header_fine.built

        some_before : 0 < length (header_labels h.tree).names → kept v.mid.fault (many_fault v.list) ≡ None
        some_before some =
            none_commands (scope (labels_in lattice) variables) (subst (λ l. 0 < length l) (sym (named header_fine)) some) k.tree
            (kept v.mid.fault (many_fault v.list)) (sym last_fault ∙ clean)

        module _ (some : 0 < length (header_labels h.tree).names) where
          all_listed : variables ≡ v.list
          all_listed = few_listed header_fine (kept_split v.mid.fault (many_fault v.list) (some_before some)).1

          declared_are : variables ≡ (declared_by (header_labels h.tree).names v.read.taken.tree).list
          declared_are = all_listed ∙ ap (λ z. z.list) (listed header_fine)

          planned : list_plan body ≡ plan_commands (scope (header_labels h.tree).names variables) 0 k.tree
          planned =
              k.means ∙ ap (λ l. plan_commands (scope l variables) s2.marks k.tree) (named header_fine)
              ∙ ap (λ n. plan_commands (scope (header_labels h.tree).names variables) n k.tree) (ap (λ z. z.marks) v.tested ∙ v.read.taken.next ∙ h.next)

          pub resolves : Resolves tree (syntax q pairs variables body)
          resolves =
              resolves_of tree (syntax q pairs variables body) (record {
                header = header_fine.none;
                order = built;
                pairs = header_fine.kept_pairs;
                declarations = declared_are;
                body = no_body;
                plan = planned;
              })

      -- the parts are those of a program
      module _ (proper : AreProper words) (short : length words ≤ 2 ^ 31) (q : Order) (there : lattice ≡ Some q) (order : IsOrder q) (few : AreFew variables)
          (differ : AllDiffer (map (λ d. d.0) variables)) where
        size : q.size ≡ length (header_labels h.tree).names
        size = (built q there).size

        some_label : 0 < length (header_labels h.tree).names
        some_label = let s = size in let o = order.some in omega (arith, s, o)

        some_named : 0 < length (labels_in lattice)
        some_named = subst (λ l. 0 < length l) (sym (named header_fine)) some_label

        clean_mid : v.mid.fault ≡ None
        clean_mid = (kept_split v.mid.fault (many_fault v.list) (some_before q there some_label)).0

        means : declaring v.list v.mid.fault ≡ declare_all (labels_in lattice) v.read.taken.tree (declaring [] None)
        means = v.read.taken.means ∙ ap (λ u. declare_all (labels_in lattice) v.read.taken.tree (declaring [] u)) header_fine.clean

        of_list : GoodAll (labels_in lattice) some_named (declare_all (labels_in lattice) v.read.taken.tree (declaring [] None)) v.mid.words
        of_list =
            all_good (labels_in lattice) some_named v.read.taken.tree (declaring [] None) v.mid.words tt (sym (ap (λ z. z.fault) means) ∙ clean_mid)
            (subst AreProper v.read.taken.spelled (proper_header h.tree s1.words (subst AreProper h.spelled proper)))

        good : AreGood (length (labels_in lattice)) variables
        good = subst (AreGood (length (labels_in lattice))) (sym (ap (λ z. z.list) means) ∙ sym (all_listed q there some_label)) of_list.good

        count_labels : length (labels_in lattice) ≡ q.size
        count_labels = ap length (named header_fine) ∙ sym size

        plan_is : list_plan body ≡ plan_commands (scope (labels_in lattice) variables) 0 k.tree
        plan_is = k.means ∙ ap (λ n. plan_commands (scope (labels_in lattice) variables) n k.tree) (ap (λ z. z.marks) v.tested ∙ v.read.taken.next ∙ h.next)

        known : KnownList (scope (labels_in lattice) variables) some_named (plan_commands (scope (labels_in lattice) variables) 0 k.tree)
            (kept v.mid.fault (many_fault v.list)) s3.words
        known =
            known_commands (scope (labels_in lattice) variables) some_named k.tree 0 (kept v.mid.fault (many_fault v.list)) s3.words (sym last_fault ∙ clean)
            (subst AreProper (same_words ∙ k.spelled) of_list.proper)

        few_commands : count (plan_commands (scope (labels_in lattice) variables) 0 k.tree) ≤ 2147483647
        few_commands =
            let c = count_commands (scope (labels_in lattice) variables) k.tree 0 s3.words in
            let a = ap length k.spelled in
            let b = ap length same_words in
            let e = ap length o.1 in
            let d = v.read.taken.shorter in
            let f = h.shorter in
            omega (arith, c, a, b, e, d, f, short)

        valid : IsValid (syntax q pairs variables body)
        valid =
            record {
              pairs =
                  subst (λ z. AreBelow q.size z) (sym header_fine.kept_pairs)
                  (subst (λ n. AreBelow n (header_pairs h.tree)) (sym size)
                  (as_labels_below (length (header_labels h.tree).names) (header_numbers h.tree) (header_below h.tree some_label)));
              flows = λ a b l m.
                  subst (λ z. Flows (lattice_of q) a b ↔ Chain z a b) (sym header_fine.kept_pairs)
                  ((built q there).flows a b (subst (λ n. a < n) size l) (subst (λ n. b < n) size m));
              order = order;
              few = few;
              names = names_all (length (labels_in lattice)) variables good;
              differ = differ;
              labels = subst (λ n. All (λ d. IsBelow n d.1.label) variables) count_labels (labels_all (length (labels_in lattice)) variables good);
              arrays = arrays_all (length (labels_in lattice)) variables good;
              some = subst AreSome (sym plan_is) (some_commands (scope (labels_in lattice) variables) some_named k.tree 0);
              count = subst (λ p. count p ≤ 2147483647) (sym plan_is) few_commands;
              known = subst (λ n. AreKnown n variables (list_plan body)) count_labels
                  (subst (AreKnown (length (labels_in lattice)) variables) (sym plan_is) known.known);
              numbered = subst (AreNumbered 0) (sym plan_is) (numbered_commands (scope (labels_in lattice) variables) k.tree 0);
              small = subst (AreSmall 0) (sym plan_is) (small_commands (scope (labels_in lattice) variables) k.tree 0 0 within_commands);
            }

      pub parts : AreProper words → length words ≤ 2 ^ 31 → AreParts lattice pairs variables body
      parts proper short = record {
        order = header_fine.order;
        there = header_fine.there;
        valid =
            λ order few differ. valid proper short header_fine.order header_fine.there order few differ;
      }

      pub program : (s : Syntax) → IsAssembled lattice pairs variables body s → IsProgram words s
      program s made =
          record {
            tree = tree;
            spells = spelled;
            within = within;
            resolves = subst (Resolves tree) (sym made.made) (resolves made.order made.there (labels_some h.tree));
          }
