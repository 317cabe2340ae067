pub mod SealedVisit
