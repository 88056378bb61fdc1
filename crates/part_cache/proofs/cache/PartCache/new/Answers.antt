use Rattle.std.proofs.Common.{◌≡◌, ◌*◌, ℕ, refl, ap, sym, ◌∙◌, arith}
use Rattle.part_cache.specs.Rows.{empty_cache}
use Rattle.part_cache.specs.declared.cache.PartCache.TheInside.{Inside}
use Rattle.part_cache.proofs.Flat.{new_value, new_empty, new_body, body_cache}
use Rattle.part_cache.proofs.cache.PartCache.new.Goals as goal

abbrev made : goal.In_ok-lattice → Inside
made c = record { lattice = c.in_ok-lattice.lattice; sets = c.args.sets; ways = c.args.ways; slots = c.in_ok-slots.slots }

many : (c : goal.In_ok-lattice) → c.size.result * c.args.sets ≡ (made c).lattice.value.size * c.args.sets
many c =
    ap (λ (n : ℕ). n * c.args.sets) (c.size.ensures.value ∙ ap (λ o. o.size) c.deref.ensures ∙ sym (ap (λ o. o.size) c.in_ok-lattice.ensures.cases))

pub returns-clause-value : goal.returns-clause-value
returns-clause-value c =
    new_value (made c) (c.size.result * c.args.sets) c.none.result c.none.ensures.none (c.in_ok-slots.ensures.items_if_clones_equal (λ y h. h)) (many c)
    ∙ ap (λ o. empty_cache o c.args.sets c.args.ways) c.in_ok-lattice.ensures.cases

pub returns-clause-cache : goal.returns-clause-cache
returns-clause-cache c =
    record {
      same_order = c.in_ok-lattice.ensures.cases;
      same_sets = refl;
      same_ways = refl;
      cache =
          body_cache (made c)
          (new_body (made c) (c.size.result * c.args.sets) c.none.result c.none.ensures.none (c.in_ok-slots.ensures.items_if_clones_equal (λ y h. h)) (many c)
          c.requires.some_set c.requires.some_way c.requires.few_sets c.requires.few_ways
          (omega (arith, c.size.ensures.within, c.size.ensures.value, ap (λ o. o.size) c.deref.ensures, ap (λ o. o.size) c.in_ok-lattice.ensures.cases))
          c.none.ensures.set);
    }

pub returns-clause-history : goal.returns-clause-history
returns-clause-history c =
    new_empty (made c) (c.size.result * c.args.sets) c.none.result c.none.ensures.none (c.in_ok-slots.ensures.items_if_clones_equal (λ y h. h)) (many c)
