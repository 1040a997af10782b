pub mod CreatedRoles
pub mod GrantedRoles
pub mod GrantParts
pub mod RevokedRoles
pub mod RoleEdits
