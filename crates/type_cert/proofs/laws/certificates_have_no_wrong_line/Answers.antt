use Rattle.type_cert.proofs.laws.certificates_have_no_wrong_line.Goals as goal

pub returns : goal.returns
returns c = λ q bytes n h w. w.none q.labels h
