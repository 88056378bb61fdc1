use Rattle.std.proofs.Common.{ap, ◌∙◌, ◌∷◌, sym, refl, get_or, length, ◌+◌}
use Rattle.mit_syntax.specs.Cut.{token_bytes}
use Rattle.mit_parser.specs.Words.{told, symbol_of}
use Rattle.mit_parser.specs.Counting.{count, is_over}
use Rattle.mit_parser.proofs.Rules.{first_told, told_one, no_token, rest_is, drop_length, low_depth}
use Rattle.mit_parser.proofs.parser.Parser.advance.Goals as goal

pub returns-then-is_over : goal.returns-then-is_over
returns-then-is_over c =
    record {
      first = told_one c.self.inside.text.now (get_or c.self.inside.rest.now 0 no_token);
      rest = _;
      was = sym (ap (λ s. s.words) c.self.view_is) ∙ first_told c.self.inside.text.now c.self.inside.rest.now no_token c.self.invariant.sound.ended;
      place = refl;
      passes =
          ap (λ s. is_over (count s.counts
          (symbol_of (get_or c.self.inside.rest.now 0 no_token).kind (token_bytes c.self.inside.text.now (get_or c.self.inside.rest.now 0 no_token)))))
          (sym c.self.view_is)
          ∙ ap is_over (sym (c.counted-counts.ensures (token_bytes c.self.inside.text.now (get_or c.self.inside.rest.now 0 no_token))))
          ∙ sym c.is_over.ensures ∙ c.if-is_over.true;
      stays = refl;
    }

pub returns : goal.returns
returns c =
    record {
      first = told_one c.self.inside.text.now (get_or c.self.inside.rest.now 0 no_token);
      was = sym (ap (λ s. s.words) c.self.view_is) ∙ first_told c.self.inside.text.now c.self.inside.rest.now no_token c.self.invariant.sound.ended
          ∙ ap (λ l. told_one c.self.inside.text.now (get_or c.self.inside.rest.now 0 no_token) ∷ told c.self.inside.text.now l)
          (sym (rest_is c.self.inside.rest.now));
      within = sym c.is_over.ensures ∙ c.if-is_over.false;
      low = low_depth c.counted-counts.result (sym c.is_over.ensures ∙ c.if-is_over.false);
      shorter = ap (λ l. length (told c.self.inside.text.now l) + 1) (rest_is c.self.inside.rest.now)
          ∙ drop_length c.self.inside.text.now c.self.inside.rest.now c.self.invariant.sound.ended ∙ ap (λ s. length s.words) c.self.view_is;
      counts = c.counted-counts.ensures (token_bytes c.self.inside.text.now (get_or c.self.inside.rest.now 0 no_token))
          ∙ ap (λ s. count s.counts (symbol_of (get_or c.self.inside.rest.now 0 no_token).kind
          (token_bytes c.self.inside.text.now (get_or c.self.inside.rest.now 0 no_token)))) c.self.view_is;
      fault = ap (λ s. s.fault) c.self.view_is;
      marks = ap (λ s. s.marks) c.self.view_is;
    }
