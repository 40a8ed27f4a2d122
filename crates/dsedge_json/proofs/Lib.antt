-- What objects say.
pub mod BlankLaws
pub mod CertificateLaws
pub mod ObjectLaws
pub mod QuotationLaws
