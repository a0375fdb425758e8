-- What looking a name up comes to, where it is found, where there is no place for it, and where it is new.
use Rattle.std.proofs.Common.{Err, refl, ap, ◌∙◌}
use Rattle.std.proofs.lemmas.Result.{err_from_is_err_and}
use Rattle.names.proofs.Places.{looks_found, looks_put, looks_refused}
use Rattle.names.proofs.Lookups.{look_up_means}
use Rattle.names.proofs.list.NameList.look_up.Goals as goal

pub returns-in-Some : goal.returns-in-Some
returns-in-Some g c =
    let list = c.args.self.now in
    let r = looks_found g.N.Name.bits list.memory.now list.count c.args.n list.most list.within _ _ c.names.ensures c.in-Some.ensures in
    record { means = look_up_means g.N.Name.bits list.memory.now list.count c.args.n _ _ _ r.0 r.1 r.2; answer = r.0; count = r.1; memory = r.2; lender = refl }

pub returns-in_err-code : goal.returns-in_err-code
returns-in_err-code g c =
    let list = c.args.self.now in
    let made = c.in_err-code.ensures in
    let passed = err_from_is_err_and c.from_residual.result c.from_residual.ensures.1 in
    let r = looks_refused g.N.Name.bits list.memory.now list.count c.args.n list.most list.within _ c.names.ensures c.in_default.ensures _ _ _ (passed.1 ∙ ap Err passed.2) made.answer made.memory in
    record { means = look_up_means g.N.Name.bits list.memory.now list.count c.args.n _ _ _ r.0 r.1 r.2; answer = r.0; count = r.1; memory = r.2; lender = refl }

pub returns : goal.returns
returns g c =
    let list = c.args.self.now in
    let made = c.in_ok-code.ensures in
    let r = looks_put g.N.Name.bits list.memory.now list.count c.args.n list.most list.within _ c.names.ensures c.in_default.ensures _ _ made.answer made.memory in
    record { means = look_up_means g.N.Name.bits list.memory.now list.count c.args.n _ _ _ r.0 r.1 r.2; answer = r.0; count = r.1; memory = r.2; lender = refl }
