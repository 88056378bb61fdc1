-- Texts that are put together from a line for each item of a list.
use Rattle.std.proofs.Common.{Vec, Global, ◌≡◌, refl, sym, ap, ◌∙◌, ℕ, ◌+◌, ◌<◌, ◌≤◌, List, [], ◌∷◌, ◌++◌, length, drop, map, get_or, append_assoc, arith}
use Rattle.std.proofs.lemmas.List.{append-nil, drop_more, drop_all}
use Rattle.black_box.specs.declared.release.Releases.{Releases}
use Rattle.black_box.specs.Files.{ready_lists}
use Rattle.black_box.specs.Outcomes.{seen}
use Rattle.tool_texts.specs.Reports.{class_line, class_lines, release_line, release_lines, releases_of, run_text, run_texts}

-- a line for each item, numbered from n
abbrev pub numbered : {A : Type 0} → (ℕ → A → List ℕ) → ℕ → List A → List ℕ
numbered line n [] = []
numbered line n (x ∷ xs) = line n x ++ numbered line (n + 1) xs

-- with the lines of the items from k on, these bytes are the whole text
pub record PutTo {A : Type 0} (line : ℕ → A → List ℕ) (old bytes : List ℕ) (k : ℕ) (xs : List A) : Type 0 where
  pub is : bytes ++ numbered line (k + 1) (drop k xs) ≡ old ++ numbered line 1 xs

module _ {A : Type 0} (line : ℕ → A → List ℕ) (xs : List A) where
  pub none_put : (old bytes : List ℕ) → bytes ≡ old → PutTo line old bytes 0 xs
  none_put old bytes e = record { is = ap (λ b. b ++ numbered line 1 xs) e }

  pub next_put : (old b c : List ℕ) (k : ℕ) (x d : A) → k < length xs → x ≡ get_or xs k d → PutTo line old b k xs → c ≡ b ++ line (k + 1) x
      → PutTo line old c (k + 1) xs
  next_put old b c k x d l e so h =
      let rest : List A = drop (k + 1) xs in
      let front : drop k xs ≡ x ∷ rest = drop_more xs k d l ∙ ap (λ z. z ∷ rest) (sym e) in
      record {
        is =
            ap (λ z. z ++ numbered line (k + 1 + 1) rest) h
            ∙ append_assoc b (line (k + 1) x) (numbered line (k + 1 + 1) rest)
            ∙ ap (λ z. b ++ numbered line (k + 1) z) (sym front)
            ∙ so.is;
      }

  pub all_put : (old b : List ℕ) (k : ℕ) → length xs ≤ k → PutTo line old b k xs → b ≡ old ++ numbered line 1 xs
  all_put old b k h so = sym (append-nil b) ∙ ap (λ z. b ++ numbered line (k + 1) z) (sym (drop_all k xs h)) ∙ so.is

pub classes_numbered : (n : ℕ) (cs : List ℕ) → numbered class_line n cs ≡ class_lines n cs
classes_numbered n [] = refl
classes_numbered n (c ∷ cs) = ap (λ z. class_line n c ++ z) (classes_numbered (n + 1) cs)

pub releases_numbered : (run n : ℕ) (cs : List ℕ) → numbered (release_line run) n cs ≡ release_lines run n cs
releases_numbered run n [] = refl
releases_numbered run n (c ∷ cs) = ap (λ z. release_line run n c ++ z) (releases_numbered run (n + 1) cs)

abbrev pub releases_text : ℕ → Releases → List ℕ
releases_text n r = release_lines n 1 r.at.items

pub all_releases_numbered : (n : ℕ) (rs : List Releases) → numbered releases_text n rs ≡ releases_of n (map seen rs)
all_releases_numbered n [] = refl
all_releases_numbered n (r ∷ rs) = ap (λ z. releases_text n r ++ z) (all_releases_numbered (n + 1) rs)

-- a line for each run, numbered from n
abbrev pub runs_text : ℕ → List (Vec ℕ Global) → List Releases → List ℕ → List ℕ
runs_text n [] rs cs = []
runs_text n (v ∷ vs) [] cs = []
runs_text n (v ∷ vs) (r ∷ rs) [] = []
runs_text n (v ∷ vs) (r ∷ rs) (c ∷ cs) = run_text n (length v.items) (seen r) c ++ runs_text (n + 1) vs rs cs

pub runs_numbered : (n : ℕ) (vs : List (Vec ℕ Global)) (rs : List Releases) (cs : List ℕ) → runs_text n vs rs cs ≡ run_texts n (ready_lists vs) (map seen rs) cs
runs_numbered n [] rs cs = refl
runs_numbered n (v ∷ vs) [] cs = refl
runs_numbered n (v ∷ vs) (r ∷ rs) [] = refl
runs_numbered n (v ∷ vs) (r ∷ rs) (c ∷ cs) = ap (λ z. run_text n (length v.items) (seen r) c ++ z) (runs_numbered (n + 1) vs rs cs)

-- with the lines of the runs from k on, these bytes are the whole text
pub record RunsPut (old bytes : List ℕ) (k : ℕ) (vs : List (Vec ℕ Global)) (rs : List Releases) (cs : List ℕ) : Type 0 where
  pub is : bytes ++ runs_text (k + 1) (drop k vs) (drop k rs) (drop k cs) ≡ old ++ runs_text 1 vs rs cs

module _ (vs : List (Vec ℕ Global)) (rs : List Releases) (cs : List ℕ) where
  pub no_run_put : (old bytes : List ℕ) → bytes ≡ old → RunsPut old bytes 0 vs rs cs
  no_run_put old bytes e = record { is = ap (λ b. b ++ runs_text 1 vs rs cs) e }

  pub next_run_put : (old b c : List ℕ) (k : ℕ) (v dv : Vec ℕ Global) (r dr : Releases) (x d : ℕ) → k < length vs
      → length rs ≡ length vs → length cs ≡ length vs
      → v ≡ get_or vs k dv → r ≡ get_or rs k dr → x ≡ get_or cs k d
      → RunsPut old b k vs rs cs → c ≡ b ++ run_text (k + 1) (length v.items) (seen r) x → RunsPut old c (k + 1) vs rs cs
  next_run_put old b c k v dv r dr x d l lr lc ev er ex so h =
      let rest : List ℕ = runs_text (k + 1 + 1) (drop (k + 1) vs) (drop (k + 1) rs) (drop (k + 1) cs) in
      let kr : k < length rs = omega arith in
      let kc : k < length cs = omega arith in
      let fv : drop k vs ≡ v ∷ drop (k + 1) vs = drop_more vs k dv l ∙ ap (λ z. z ∷ drop (k + 1) vs) (sym ev) in
      let fr : drop k rs ≡ r ∷ drop (k + 1) rs = drop_more rs k dr kr ∙ ap (λ z. z ∷ drop (k + 1) rs) (sym er) in
      let fc : drop k cs ≡ x ∷ drop (k + 1) cs = drop_more cs k d kc ∙ ap (λ z. z ∷ drop (k + 1) cs) (sym ex) in
      record {
        is =
            ap (λ z. z ++ rest) h
            ∙ append_assoc b (run_text (k + 1) (length v.items) (seen r) x) rest
            ∙ ap (λ z. b ++ runs_text (k + 1) z (r ∷ drop (k + 1) rs) (x ∷ drop (k + 1) cs)) (sym fv)
            ∙ ap (λ z. b ++ runs_text (k + 1) (drop k vs) z (x ∷ drop (k + 1) cs)) (sym fr)
            ∙ ap (λ z. b ++ runs_text (k + 1) (drop k vs) (drop k rs) z) (sym fc)
            ∙ so.is;
      }

  pub all_runs_put : (old b : List ℕ) (k : ℕ) → length vs ≤ k → RunsPut old b k vs rs cs → b ≡ old ++ runs_text 1 vs rs cs
  all_runs_put old b k h so = sym (append-nil b) ∙ ap (λ z. b ++ runs_text (k + 1) z (drop k rs) (drop k cs)) (sym (drop_all k vs h)) ∙ so.is
